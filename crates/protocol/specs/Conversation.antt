-- A conversation with the verifier: its challenges, what is heard in it, and its steps with given messages and openings, which are asked
-- about and then committed (document 01, "Session and verdict"; document 02, request 9). Assumes nothing.
use Rattle.std.specs.Prelude.{List, [], ◌∷◌, ◌++◌, ℕ}
use Rattle.protocol.specs.Three.{Three, map_three}
use Rattle.protocol.specs.Circuit.{Sizes}
use Rattle.protocol.specs.Checks.{Transcript, Openings, Verdict}
use Rattle.protocol.specs.Messages.{Messages, MessageLengths, lengths_of}
use Rattle.protocol.specs.Session.{Answer, Taken, Judged, Step, Open, Alpha, Eta, Beta, Delta, Gamma, Ask, Commit}

-- the challenges in their order
pub record Challenges (T : Type 0) : Type 0 where
  pub α : T
  pub η : Three T
  pub β : T
  pub δ : Three T
  pub γ : T

abbrev pub map_challenges : {S T : Type 0} → (S → T) → Challenges S → Challenges T
map_challenges f t = record { α = f t.α; η = map_three f t.η; β = f t.β; δ = map_three f t.δ; γ = f t.γ }

-- what is heard before the openings: the challenges, with the σ and ω that were sent
abbrev pub transcript_of : {P T : Type 0} → Challenges T → Messages P T → Transcript T
transcript_of t sent =
    record { α = t.α; sums = sent.sums; η = t.η; β = t.β; values = sent.values; δ = t.δ; γ = t.γ }

-- the six steps before the openings, with the declared lengths
abbrev pub hearing : Sizes → List ℕ → Transcript ℕ → MessageLengths → List Step
hearing s x t declared =
    Open s x
    ∷ Alpha declared.witness declared.mask declared.row_quotient t.α
    ∷ Eta t.sums t.η
    ∷ Beta declared.line_remainder declared.line_quotient t.β
    ∷ Delta t.values declared.matrix_remainders t.δ
    ∷ Gamma declared.joined_quotient t.γ
    ∷ []

-- with messages: the declared length of a polynomial is its own
abbrev pub hearing_messages : Sizes → List ℕ → Challenges ℕ → Messages (List ℕ) ℕ → List Step
hearing_messages s x t sent = hearing s x (transcript_of t sent) (lengths_of sent)

-- the eight steps: the verdict on the openings is asked for, and then they are committed
abbrev pub steps : Sizes → List ℕ → Challenges ℕ → Messages (List ℕ) ℕ → Openings ℕ → List Step
steps s x t sent o = hearing_messages s x t sent ++ (Ask o ∷ Commit o ∷ [])

-- the answers to them where nothing is refused, with the verdict
abbrev pub ending_in : Verdict → List Answer
ending_in v = Taken ∷ Taken ∷ Taken ∷ Taken ∷ Taken ∷ Taken ∷ Judged v ∷ Judged v ∷ []
