-- The rows of blinding in two parts: 4 and 5 for the lists that are given, 6 and after for the contents. The lent slices are judged between
-- the two. Assumes nothing.
use Rattle.std.specs.Prelude.{Bool, ◌&&◌, List, [], ◌∷◌, ◌++◌, ℕ, ◌*◌, ◌%◌, eqb, ltb, length}
use Rattle.std.proofs.Math.Option.{Option}
use Rattle.field.specs.Prime.{Prime}
use Rattle.domain.specs.Size.{max_size}
use Rattle.protocol.specs.Three.{Three, listed}
use Rattle.protocol.specs.Circuit.{Circuit}
use Rattle.protocol.specs.Refusals.{Refusal, first, size_tests, size_refusal, list_refusal, word_refusal, entry_refusal, constant_refusal}
use Rattle.protocol.specs.Admission.{entry_values}
use Rattle.protocol.specs.Calls.{CircuitWords}
use Rattle.protocol.specs.Blinded.{blinding_refusal, roomy_list_tests}

-- the test of an entry list, by its length
abbrev pub whole_with_room : ℕ → Bool
whole_with_room n = eqb (n % 3) 0 && ltb n (3 * max_size)

unfoldable pub shape_refusal : CircuitWords → List ℕ → Option Refusal
shape_refusal c z =
    first (size_refusal (size_tests c.|R| c.|C| c.|X| []) ∷ list_refusal (roomy_list_tests c ++ (eqb (length z) c.|C| ∷ [])) ∷ [])

unfoldable pub contents_refusal : Prime → Circuit → List ℕ → Three ℕ → Option Refusal
contents_refusal q k z ρ =
    first (word_refusal q (entry_values k ++ (z ++ listed ρ)) ∷ entry_refusal k ∷ blinding_refusal k ∷ constant_refusal z ∷ [])
