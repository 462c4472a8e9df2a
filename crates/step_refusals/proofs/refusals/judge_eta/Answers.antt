-- `step_refusals::refusals::judge_eta` meets its contract: the turn, the words. Assumes nothing.
use Rattle.std.proofs.Common.{◌∙◌, List, [], ◌∷◌, ◌++◌, ℕ}
use Rattle.std.proofs.Math.Option.{Option}
use Rattle.field.specs.Prime.{Prime}
use Rattle.shared.specs.Meanings.{three}
use Rattle.protocol.specs.Refusals.{Refusal, word_refusal}
use Rattle.protocol.specs.Session.{eta_refusal}
use Rattle.protocol.specs.Three.{listed}
use Rattle.shared.proofs.EarlyReturns.{stops, goes_on, last_answer_lem}
use Rattle.protocol.proofs.Rows.{word_row}
use Rattle.step_refusals.proofs.refusals.judge_eta.Goals as goal
use Rattle.step_refusals.proofs.refusals.judge_eta.Goals.{Start}

-- the words, and the row after the turn
module _ (s : Start) where
  abbrev ws : List ℕ
  ws = listed (three s.args.sums) ++ listed (three s.args.eta)

  abbrev rest : Prime → List (Option Refusal)
  rest q = word_refusal q ws ∷ []

pub returns-in_err-judge_turn : goal.returns-in_err-judge_turn
unfolding eta_refusal
returns-in_err-judge_turn c q e =
    stops _ _ c.from_residual.ensures.1 c.in_err-judge_turn.ensures (rest (goal.at.returns-in_err-judge_turn c).Start q)

pub returns : goal.returns
unfolding eta_refusal
returns c q e =
    let s = (goal.at.returns c).Start in
    goes_on c.in_ok-judge_turn.ensures (rest s q) (last_answer_lem (c.judge_words.ensures ∙ word_row q e (ws s)))
