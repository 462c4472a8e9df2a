-- `step_refusals::refusals::judge_openings` meets its contract: the turn, what steps leave, the words. Assumes nothing.
use Rattle.std.proofs.Common.{sym, ap₂, ◌∙◌, ◌&&◌, List, [], ◌∷◌}
use Rattle.std.proofs.Math.Option.{Option}
use Rattle.field.specs.Prime.{Prime}
use Rattle.protocol.specs.Checks.{list_openings}
use Rattle.shared.specs.Meanings.{sizes, transcript, openings}
use Rattle.protocol.specs.Refusals.{Refusal, six_size_tests, turn_refusal, word_refusal}
use Rattle.protocol.specs.Session as steps
use Rattle.protocol.specs.Session.{in_turn, left_by_steps, openings_refusal}
use Rattle.shared.proofs.EarlyReturns.{stops, fails_first, passes, last_answer_lem}
use Rattle.protocol.proofs.UnrefusedSteps.{in_turn_lem}
use Rattle.protocol.proofs.RefusalLaws.{all_true}
use Rattle.step_refusals.proofs.Turns.{turn_true, turn_either}
use Rattle.step_refusals.proofs.refusals.judge_openings.Goals as goal
use Rattle.step_refusals.proofs.refusals.judge_openings.Goals.{Start}

-- the session, and the row after the turn
module _ (s : Start) where
  abbrev session : steps.Session
  session = let a = s.args in record { stage = a.stage; sizes = sizes a.s; x = a.x.now; transcript = transcript a.t }

  abbrev rest : Prime → List (Option Refusal)
  rest q = word_refusal q (list_openings (openings s.args.o s.args.index)) ∷ []

pub returns-in_err-judge_turn : goal.returns-in_err-judge_turn
unfolding openings_refusal
returns-in_err-judge_turn c q Q e =
    let s = (goal.at.returns-in_err-judge_turn c).Start in
    stops _ _ c.from_residual.ensures.1 (turn_either _ (left_by_steps q (session s)) c.in_err-judge_turn.ensures) (rest s q)

pub left_by_steps-requires-clause-s_value : goal.left_by_steps-requires-clause-s_value
left_by_steps-requires-clause-s_value c =
    let s = sizes c.args.s in
    all_true (six_size_tests s) (in_turn_lem 6 c.args.stage s (turn_true _ c.in_ok-judge_turn.ensures)).sizes-allowed

pub returns-then-not-left_by_steps : goal.returns-then-not-left_by_steps
unfolding openings_refusal turn_refusal
returns-then-not-left_by_steps c q Q e =
    let s = (goal.at.returns-then-not-left_by_steps c).Start in
    fails_first 1 0 (rest s q)
    (ap₂ ◌&&◌ (turn_true _ c.in_ok-judge_turn.ensures) (sym (c.left_by_steps.ensures q Q e s.args.stage) ∙ c.if-not-left_by_steps.true))

pub returns : goal.returns
unfolding openings_refusal turn_refusal
returns c q Q e =
    let s = (goal.at.returns c).Start in
    passes 1 0 (rest s q)
    (ap₂ ◌&&◌ (turn_true _ c.in_ok-judge_turn.ensures) (sym (c.left_by_steps.ensures q Q e s.args.stage) ∙ c.if-not-left_by_steps.false))
    (last_answer_lem (c.judge_opened.ensures q e))
