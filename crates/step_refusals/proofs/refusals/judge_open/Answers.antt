-- `step_refusals::refusals::judge_open` meets its contract: the sizes, the length, the words, the first word. Assumes nothing.
use Rattle.std.proofs.Common.{◌∙◌, List, [], ◌∷◌, eqb, length, eq-eqb, ne_eqb}
use Rattle.std.proofs.Math.Option.{Option}
use Rattle.field.specs.Prime.{Prime}
use Rattle.protocol.specs.Refusals.{Refusal, size_refusal, list_refusal, word_refusal, constant_refusal}
use Rattle.protocol.specs.Session.{open_refusal}
use Rattle.shared.proofs.EarlyReturns.{stops, goes_on, last_answer_lem, fails_first, passes}
use Rattle.protocol.proofs.Rows.{word_row}
use Rattle.step_refusals.proofs.refusals.judge_open.Goals as goal
use Rattle.step_refusals.proofs.refusals.judge_open.Goals.{Start}

-- the rows after the words, the length, and the sizes
module _ (s : Start) where
  abbrev after-words : List (Option Refusal)
  after-words = constant_refusal s.args.x.now ∷ []

  abbrev after-length : Prime → List (Option Refusal)
  after-length q = word_refusal q s.args.x.now ∷ after-words

  abbrev after-sizes : Prime → List (Option Refusal)
  after-sizes q = list_refusal (eqb (length s.args.x.now) s.args.s.x ∷ []) ∷ after-length q

pub returns-in_err-judge_sizes : goal.returns-in_err-judge_sizes
unfolding open_refusal size_refusal
returns-in_err-judge_sizes c q e =
    stops _ _ c.from_residual.ensures.1 c.in_err-judge_sizes.ensures (after-sizes (goal.at.returns-in_err-judge_sizes c).Start q)

pub returns-then-x-s : goal.returns-then-x-s
unfolding open_refusal size_refusal list_refusal
returns-then-x-s c q e =
    let s = (goal.at.returns-then-x-s c).Start in
    goes_on c.in_ok-judge_sizes.ensures (after-sizes s q) (fails_first 5 0 (after-length s q) (ne_eqb _ _ c.if-x-s.true))

pub returns-in_err-judge_words : goal.returns-in_err-judge_words
unfolding open_refusal size_refusal list_refusal
returns-in_err-judge_words c q e =
    let s = (goal.at.returns-in_err-judge_words c).Start in
    goes_on c.in_ok-judge_sizes.ensures (after-sizes s q)
    (passes 5 0 (after-length s q) (eq-eqb _ _ c.if-x-s.false)
    (stops _ _ c.from_residual-in_err-judge_words.ensures.1 (c.in_err-judge_words.ensures ∙ word_row q e c.args.x.now) (after-words s)))

pub returns : goal.returns
unfolding open_refusal size_refusal list_refusal
returns c q e =
    let s = (goal.at.returns c).Start in
    goes_on c.in_ok-judge_sizes.ensures (after-sizes s q)
    (passes 5 0 (after-length s q) (eq-eqb _ _ c.if-x-s.false)
    (goes_on (c.in_ok-judge_words.ensures ∙ word_row q e c.args.x.now) (after-words s) (last_answer_lem c.judge_constant.ensures)))
