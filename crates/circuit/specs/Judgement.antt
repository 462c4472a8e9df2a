-- The rows of the table of refusals that calls share, in two parts: 4 and 5 for what a call begins with, 6 and after for its
-- contents. A call judges its lent slices between the two. Assumes nothing.
use Rattle.std.specs.Prelude.{Bool, ◌&&◌, ℕ, ◌*◌, ◌%◌, eqb, leb, length}
use mathlib.Core.List.{List, [], ◌∷◌, ◌++◌, foldr}
use Rattle.std.proofs.Math.Option.{Option}
use Rattle.field.specs.Prime.{Prime}
use Rattle.domain.specs.Size.{max_size, size_for}
use Rattle.protocol.specs.Three.{Three, listed, map_three}
use Rattle.protocol.specs.Circuit.{Entry, Circuit}
use Rattle.protocol.specs.Refusals.{Refusal, first, pairs, size_tests}
use Rattle.protocol.specs.Refusals.{size_refusal, list_refusal, word_refusal, entry_refusal}
use Rattle.protocol.specs.Admission.{circuit_refusals, refusals_after_circuit, entry_values, assignment_tests}
use Rattle.protocol.specs.Calls.{CircuitWords, circuit_of, entry_list_tests}

-- the test of an entry list, by its length
abbrev pub whole_and_few : ℕ → Bool
whole_and_few n = eqb (n % 3) 0 && leb n (3 * max_size)

-- 4 and 5 of a circuit, and with z and m
unfoldable pub index_shape_refusal : CircuitWords → Option Refusal
index_shape_refusal c = first (size_refusal (size_tests c.|R| c.|C| c.|X| []) ∷ list_refusal (entry_list_tests c) ∷ [])

unfoldable pub shape_refusal : CircuitWords → List ℕ → List ℕ → Option Refusal
shape_refusal c z m =
    first
    (size_refusal (size_tests c.|R| c.|C| c.|X| []) ∷ list_refusal (entry_list_tests c ++ assignment_tests (circuit_of c) z m) ∷ [])

-- the lengths that the lent slices of the indexer must have: |K_M| four times for each matrix
unfoldable pub index_due : Three (List Entry) → List ℕ
index_due matrices = foldr (λ n due. n ∷ n ∷ n ∷ n ∷ due) [] (listed (map_three (λ l. size_for (length l)) matrices))

-- 4 to 7 of the indexer, from the lengths of its lent slices in order
unfoldable pub index_refusal : Prime → CircuitWords → List ℕ → Option Refusal
index_refusal q c lent = first (circuit_refusals q (circuit_of c) (entry_list_tests c ++ pairs eqb lent (index_due (circuit_of c).matrices)) [])

-- 4 to 7 of a circuit
unfoldable pub circuit_refusal : Prime → CircuitWords → Option Refusal
circuit_refusal q c = first (circuit_refusals q (circuit_of c) (entry_list_tests c) [])

module _ (q : Prime) (c : Circuit) where
  -- 6 and 7 of a circuit
  unfoldable pub index_contents_refusal : Option Refusal
  index_contents_refusal = first (word_refusal q (entry_values c ++ []) ∷ entry_refusal c ∷ [])

  -- 6, 7, 8, 13, 9 and 10 of a prover call: z, the mask word, m, all challenge words, and those of α, β, γ that the call has
  unfoldable pub contents_refusal : List ℕ → ℕ → List ℕ → List ℕ → List ℕ → Option Refusal
  contents_refusal z mask m challenges points =
      first (word_refusal q (entry_values c ++ (z ++ (mask ∷ (m ++ challenges)))) ∷ entry_refusal c ∷ refusals_after_circuit q c z m points)
