-- `report::matrix_rounds::put_fourth` meets its contract. Assumes nothing.
use Rattle.std.proofs.Common.{sym, ap, ◌∙◌, ℕ}
use Rattle.protocol.specs.Three.{Three}
use Rattle.protocol.specs.Messages.{MessageLengths}
use Rattle.shared.specs.Meanings.{refusal, three}
use Rattle.circuit.specs.Given.{input_words}
use Rattle.poly.proofs.LentParts.{lent_length}
use Rattle.varuna.proofs.AnswerLaws.{three_same}
use Rattle.report.specs.Stages.{due, fourth_lines, fourth_text}
use Rattle.report.proofs.PrintedLaws.{printed_as}
use Rattle.report.proofs.Bounds.{roomy}
use Rattle.report.proofs.RoundResults.{fourth-done}
use Rattle.report.proofs.matrix_rounds.put_fourth.Goals as goal

pub slice_bounds-words_a-end : goal.slice_bounds-words_a-end
slice_bounds-words_a-end c = (roomy _ c.requires.free c.lengths_of.ensures).a_most

pub slice_bounds-ga-end : goal.slice_bounds-ga-end
slice_bounds-ga-end c = lent_length 1024 (roomy _ c.requires.free c.lengths_of.ensures).a_most

pub slice_bounds-words_b-end : goal.slice_bounds-words_b-end
slice_bounds-words_b-end c = (roomy _ c.requires.free c.lengths_of.ensures).b_most

pub slice_bounds-gb-end : goal.slice_bounds-gb-end
slice_bounds-gb-end c = lent_length 1024 (roomy _ c.requires.free c.lengths_of.ensures).b_most

pub slice_bounds-words_c-end : goal.slice_bounds-words_c-end
slice_bounds-words_c-end c = (roomy _ c.requires.free c.lengths_of.ensures).c_most

pub slice_bounds-gc-end : goal.slice_bounds-gc-end
slice_bounds-gc-end c = lent_length 1024 (roomy _ c.requires.free c.lengths_of.ensures).c_most

pub returns : goal.returns
unfolding fourth_text
returns c =
    let a = c.args in
    let R = roomy _ c.requires.free c.lengths_of.ensures in
    let table = ap (λ (l : MessageLengths). l.matrix_remainders) c.lengths_of.ensures in
    let lent =
    three_same (due (input_words a.input.now)).matrix_remainders (sym (lent_length 1024 R.a_most) ∙ ap (λ (l : Three ℕ). l.a) table)
    (sym (lent_length 1024 R.b_most) ∙ ap (λ (l : Three ℕ). l.b) table)
    (sym (lent_length 1024 R.c_most) ∙ ap (λ (l : Three ℕ). l.c) table) in
    let done = fourth-done _ a.alpha (three a.eta) a.beta _ c.requires.free lent c.fourth_round-answer.ensures in
    let values = c.words_or_zeros-values.ensures refusal ∙ done.0 in
    record {
      values_value = values;
      printed = printed_as (λ t. fourth_lines (values t) (done.1 t)) c.put_fourth_lines-place.ensures;
    }
