-- The first refusal of a step that hears a challenge (document 01, "Session and verdict"): α, β and γ are its three uses. Assumes nothing.
use Rattle.std.specs.Prelude.{List, [], ◌∷◌, ℕ}
use Rattle.std.proofs.Math.Option.{Option}
use Rattle.field.specs.Prime.{Prime}
use Rattle.field.specs.Element.{of}
use Rattle.protocol.specs.Circuit.{Sizes}
use Rattle.protocol.specs.Refusals.{Refusal, first, turn_refusal, word_refusal, challenge_refusal, length_refusal}
use Rattle.protocol.specs.Session.{in_turn}

-- the step after the first `taken`, at a stage and sizes; y at its position, with the domain of size n; declared lengths and the table's
abbrev pub challenge_step : Prime → ℕ → ℕ → Sizes → ℕ → ℕ → ℕ → List ℕ → List ℕ → Option Refusal
challenge_step q taken stage s position n y declared most =
    first
    (turn_refusal (in_turn taken stage s)
    ∷ word_refusal q (y ∷ [])
    ∷ challenge_refusal {q = q} position (n ∷ []) (of y ∷ [])
    ∷ length_refusal declared most
    ∷ [])
