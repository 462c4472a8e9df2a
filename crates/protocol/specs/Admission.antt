-- The rows of the table of refusals that every call with a circuit has, and the circuits that they let through
-- (document 01, "Refusals by place of check"). Assumes nothing.
use Rattle.std.specs.Prelude.{◌≡◌, Bool, List, [], ◌∷◌, ◌++◌, map, ℕ, ◌*◌, eqb, leb, length}
use Rattle.std.proofs.Math.Option.{Option, none}
use Rattle.field.specs.Prime.{Prime}
use Rattle.field.specs.Element.{of}
use Rattle.domain.specs.Size.{max_size}
use Rattle.protocol.specs.Three.{listed, map_three}
use Rattle.protocol.specs.Circuit.{Entry, Circuit, sizes_of, largest}
use Rattle.protocol.specs.Refusals.{Refusal, first, size_tests, size_refusal, list_refusal, word_refusal, entry_refusal, mask_refusal, constant_refusal, assignment_refusal, challenge_refusal}

-- the field words of a circuit: "entry values included; sizes, counts, rows and columns not"
unfoldable pub entry_values : Circuit → List ℕ
entry_values c = map (λ (e : Entry). e.value) (c.matrices.a ++ (c.matrices.b ++ c.matrices.c))

-- "over 1,024 entries": a test for each matrix
unfoldable pub count_tests : Circuit → List Bool
count_tests c = listed (map_three (λ entries. leb (length entries) max_size) c.matrices)

-- the lengths of z and m
unfoldable pub assignment_tests : Circuit → List ℕ → List ℕ → List Bool
assignment_tests c z m = eqb (length z) c.|C| ∷ eqb (length m) (2 * c.|C|) ∷ []

module _ (q : Prime) where
  -- 4, 5, 6 and 7, with the tests of all lists of the call, and the words that it has after the circuit's
  unfoldable pub circuit_refusals : Circuit → List Bool → List ℕ → List (Option Refusal)
  circuit_refusals c lists ws =
      size_refusal (size_tests c.|R| c.|C| c.|X| []) ∷ list_refusal lists ∷ word_refusal q (entry_values c ++ ws) ∷ entry_refusal c ∷ []

  -- "every circuit that the table of refusals lets through"
  abbrev pub Admitted : Circuit → Type 0
  Admitted c = first (circuit_refusals c (count_tests c) []) ≡ none

  -- 8, 13, 9 and 10, with z, m and the challenge words of α, β, γ that the call has
  abbrev pub refusals_after_circuit : Circuit → List ℕ → List ℕ → List ℕ → List (Option Refusal)
  refusals_after_circuit c z m points =
      mask_refusal {q = q} c (map of m)
      ∷ constant_refusal z ∷ assignment_refusal {q = q} c (map of z)
      ∷ challenge_refusal {q = q} 0 (c.|R| ∷ c.|C| ∷ largest (sizes_of c).|K| ∷ []) (map of points)
      ∷ []

  -- 4 to 8, 13, 9 and 10 of a call or a job with the tests of its lists: z, r and m, all its challenge words in order, and those of α, β, γ
  -- among them
  unfoldable pub prover_refusal : Circuit → List Bool → List ℕ → ℕ → List ℕ → List ℕ → List ℕ → Option Refusal
  prover_refusal c lists z r m challenges points =
      first (circuit_refusals c lists (z ++ (r ∷ (m ++ challenges))) ++ refusals_after_circuit c z m points)
