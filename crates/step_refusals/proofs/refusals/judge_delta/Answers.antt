-- `step_refusals::refusals::judge_delta` meets its contract: the turn, the words, the declared lengths. Assumes nothing.
use Rattle.std.proofs.Common.{ap, ◌∙◌, List, [], ◌∷◌, ◌++◌, ℕ}
use Rattle.std.proofs.Math.Option.{Option}
use Rattle.field.specs.Prime.{Prime}
use Rattle.shared.specs.Meanings.{sizes, three}
use Rattle.protocol.specs.Messages.{MessageLengths, lengths}
use Rattle.protocol.specs.Refusals.{Refusal, word_refusal, length_refusal}
use Rattle.protocol.specs.Session.{delta_refusal}
use Rattle.protocol.specs.Three.{listed}
use Rattle.shared.proofs.EarlyReturns.{stops, goes_on, last_answer_lem}
use Rattle.protocol.proofs.Rows.{word_row}
use Rattle.step_refusals.proofs.refusals.judge_delta.Goals as goal
use Rattle.step_refusals.proofs.refusals.judge_delta.Goals.{Start}

-- the words, and the rows of the lengths by a table, and after the turn
module _ (s : Start) where
  abbrev ws : List ℕ
  ws = listed (three s.args.values) ++ listed (three s.args.delta)

  abbrev most : MessageLengths → Option Refusal
  most l = length_refusal (listed (three s.args.remainders)) (listed l.matrix_remainders)

  abbrev lengths-row : List (Option Refusal)
  lengths-row = most (lengths (sizes s.args.s)) ∷ []

  abbrev rest : Prime → List (Option Refusal)
  rest q = word_refusal q ws ∷ lengths-row

pub returns-in_err-judge_turn : goal.returns-in_err-judge_turn
unfolding delta_refusal
returns-in_err-judge_turn c q e =
    stops _ _ c.from_residual.ensures.1 c.in_err-judge_turn.ensures (rest (goal.at.returns-in_err-judge_turn c).Start q)

pub returns-in_err-judge_words : goal.returns-in_err-judge_words
unfolding delta_refusal
returns-in_err-judge_words c q e =
    let s = (goal.at.returns-in_err-judge_words c).Start in
    goes_on c.in_ok-judge_turn.ensures (rest s q)
    (stops _ _ c.from_residual-in_err-judge_words.ensures.1 (c.in_err-judge_words.ensures ∙ word_row q e (ws s)) (lengths-row s))

pub returns : goal.returns
unfolding delta_refusal
returns c q e =
    let s = (goal.at.returns c).Start in
    goes_on c.in_ok-judge_turn.ensures (rest s q)
    (goes_on (c.in_ok-judge_words.ensures ∙ word_row q e (ws s)) (lengths-row s)
    (last_answer_lem (c.judge_lengths.ensures ∙ ap (most s) c.message_lengths.ensures)))
