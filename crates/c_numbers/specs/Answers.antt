-- What an exported function hands over: the number that it returns, the position, and what its results hold when it returns.
-- Assumes nothing.
use Rattle.std.specs.Prelude.{List, ◌∷◌, ℕ}
use Rattle.protocol.specs.Three.{Three, listed}
use Rattle.protocol.specs.Circuit.{Sizes}
use Rattle.protocol.specs.Checks.{Row, Line, Matrix, Verdict, Accept, Fails}
use Rattle.protocol.specs.Refusals.{Outcome, Done, Refused, map_outcome}
use Rattle.protocol.specs.Session as steps
use Rattle.verifier.specs.Session.{session_words}

pub record Answered (T : Type 0) : Type 0 where
  pub number : ℕ
  pub position : ℕ
  pub result : T

module _ {T : Type 0} where
  abbrev pub told : ℕ → ℕ → T → Answered T
  told number position result = record { number = number; position = position; result = result }

  -- 0 with the result, or the refusal with what was there before
  abbrev pub answered : Outcome T → T → Answered T
  answered (Done result) before = told 0 0 result
  answered (Refused r) before = told r.number r.position before

-- one word for each matrix, and beside them slices
abbrev pub three_listed : Outcome (Three ℕ) → Outcome (List ℕ)
three_listed = map_outcome listed

abbrev pub three_listed_with : {S : Type 0} → Outcome (Three ℕ × S) → Outcome (List ℕ × S)
three_listed_with = map_outcome (λ t. (listed t.0, t.1))

-- the six sizes in trailer order
abbrev pub sizes_listed : Outcome Sizes → Outcome (List ℕ)
sizes_listed = map_outcome (λ s. s.|R| ∷ s.|C| ∷ s.|X| ∷ listed s.|K|)

-- a step: the words of the next session, or those before
abbrev pub step_words : steps.Answer → List ℕ → List ℕ → Answered (List ℕ)
step_words steps.Taken next before = told 0 0 next
step_words (steps.Judged v) next before = told 0 0 next
step_words (steps.Refused r) next before = told r.number r.position before

abbrev pub step_answered : steps.Stepped → List ℕ → Answered (List ℕ)
step_answered s before = step_words s.answer (session_words s.session) before

-- the number where there is no verdict, and the verdicts by number
abbrev pub no_verdict : ℕ
no_verdict = 0

abbrev pub verdict_number : Verdict → ℕ
verdict_number Accept = 1
verdict_number (Fails Row) = 2
verdict_number (Fails Line) = 3
verdict_number (Fails Matrix) = 4

-- asking: the verdict's number, or the refusal with no verdict; openings are never answered Taken
abbrev pub verdict_answered : steps.Answer → Answered ℕ
verdict_answered steps.Taken = told 0 0 no_verdict
verdict_answered (steps.Judged v) = told 0 0 (verdict_number v)
verdict_answered (steps.Refused r) = told r.number r.position no_verdict

-- committing: the verdict as in asking, and the session's words as in every step
abbrev pub commit_answered : steps.Stepped → List ℕ → Answered (List ℕ × ℕ)
commit_answered s before =
    let asked : Answered ℕ = verdict_answered s.answer in
    told asked.number asked.position ((step_answered s before).result, asked.result)
