-- `step_refusals::refusals::judge_challenge` meets its contract: the turn, the word, its domain, the declared lengths. Assumes nothing.
use Rattle.std.proofs.Common.{sym, ap, ◌∙◌, arith, not, List, [], ◌∷◌, lt-ltb, le-ltb}
use Rattle.std.proofs.Math.Option.{Option}
use Rattle.field.specs.Prime.{Prime}
use Rattle.field.specs.Element.{of}
use Rattle.protocol.specs.Refusals.{Refusal, word_refusal, challenge_refusal, length_refusal}
use Rattle.shared.proofs.EarlyReturns.{stops, goes_on, fails_first, passes, last_answer_lem}
use Rattle.shared.specs.Meanings.{sizes}
use Rattle.step_refusals.proofs.Turns.{turn_allowed}
use Rattle.step_refusals.proofs.refusals.judge_challenge.Goals as goal
use Rattle.step_refusals.proofs.refusals.judge_challenge.Goals.{Start}

-- the rows after the domain, after the word, and after the turn
module _ (s : Start) where
  abbrev after-domain : List (Option Refusal)
  after-domain = length_refusal s.args.declared.now s.args.most.now ∷ []

  abbrev after-word : Prime → List (Option Refusal)
  after-word q = let a = s.args in challenge_refusal {q = q} a.position (a.n ∷ []) (of a.y ∷ []) ∷ after-domain

  abbrev after_turn : Prime → List (Option Refusal)
  after_turn q = word_refusal q (s.args.y ∷ []) ∷ after-word q

pub returns-in_err-judge_turn : goal.returns-in_err-judge_turn
returns-in_err-judge_turn c q Q e =
    stops _ _ c.from_residual.ensures.1 c.in_err-judge_turn.ensures (after_turn (goal.at.returns-in_err-judge_turn c).Start q)

pub returns-then-p-y : goal.returns-then-p-y
unfolding word_refusal
returns-then-p-y c q Q e =
    let s = (goal.at.returns-then-p-y c).Start in
    goes_on c.in_ok-judge_turn.ensures (after_turn s q) (fails_first 6 0 (after-word s q) (le-ltb c.args.y q.p (omega arith)))

pub is_inside-requires-clause-n_value : goal.is_inside-requires-clause-n_value
is_inside-requires-clause-n_value c =
    let a = c.args in
    c.requires.n_value (turn_allowed a.taken a.stage (sizes a.s) c.in_ok-judge_turn.ensures)

pub returns-then-is_inside : goal.returns-then-is_inside
unfolding word_refusal challenge_refusal
returns-then-is_inside c q Q e =
    let s = (goal.at.returns-then-is_inside c).Start in
    goes_on c.in_ok-judge_turn.ensures (after_turn s q)
    (passes 6 0 (after-word s q) (lt-ltb c.args.y q.p (omega arith))
    (fails_first 10 c.args.position (after-domain s) (ap not (sym (c.is_inside.ensures q Q e) ∙ c.if-is_inside.true))))

pub returns : goal.returns
unfolding word_refusal challenge_refusal
returns c q Q e =
    let s = (goal.at.returns c).Start in
    goes_on c.in_ok-judge_turn.ensures (after_turn s q)
    (passes 6 0 (after-word s q) (lt-ltb c.args.y q.p (omega arith))
    (passes 10 c.args.position (after-domain s) (ap not (sym (c.is_inside.ensures q Q e) ∙ c.if-is_inside.false))
    (last_answer_lem c.judge_lengths.ensures)))
