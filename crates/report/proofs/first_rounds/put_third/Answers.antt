-- `report::first_rounds::put_third` meets its contract. Assumes nothing.
use Rattle.std.proofs.Common.{sym, ap, ◌∙◌}
use Rattle.protocol.specs.Messages.{MessageLengths}
use Rattle.shared.specs.Meanings.{three}
use Rattle.poly.proofs.LentParts.{part_order, lent_length}
use Rattle.report.specs.Stages.{third_lines, third_text}
use Rattle.report.proofs.PrintedLaws.{printed_as}
use Rattle.report.proofs.Bounds.{roomy}
use Rattle.report.proofs.RoundResults.{third-done}
use Rattle.report.proofs.first_rounds.put_third.Goals as goal

pub slice_bounds-remainder_words-end : goal.slice_bounds-remainder_words-end
slice_bounds-remainder_words-end c = (roomy _ c.requires.free c.lengths_of-due.ensures).line_remainder_most

pub slice_bounds-remainder-end : goal.slice_bounds-remainder-end
slice_bounds-remainder-end c = lent_length 1024 (roomy _ c.requires.free c.lengths_of-due.ensures).line_remainder_most

pub slice_bounds-quotient_words-end : goal.slice_bounds-quotient_words-end
slice_bounds-quotient_words-end c = (roomy _ c.requires.free c.lengths_of-due.ensures).line_quotient_most

pub slice_bounds-quotient-end : goal.slice_bounds-quotient-end
slice_bounds-quotient-end c = lent_length 1024 (roomy _ c.requires.free c.lengths_of-due.ensures).line_quotient_most

pub put_third_lines-requires-clause-remainder_len_bound : goal.put_third_lines-requires-clause-remainder_len_bound
put_third_lines-requires-clause-remainder_len_bound c =
    let R = roomy _ c.requires.free c.lengths_of-due.ensures in
    let filled = c.third_round.auto in (
      part_order (lent_length 1024 R.line_remainder_most ∙ sym filled.remainder) R.line_remainder_most,
      part_order (lent_length 1024 R.line_quotient_most ∙ sym filled.quotient) R.line_quotient_most,
    )

pub returns : goal.returns
unfolding third_text
returns c =
    let R = roomy _ c.requires.free c.lengths_of-due.ensures in
    let table = c.lengths_of-due.ensures in
    let done =
    third-done _ c.args.alpha (three c.args.eta) _ c.requires.free
    (sym (lent_length 1024 R.line_remainder_most) ∙ ap (λ (l : MessageLengths). l.line_remainder) table)
    (sym (lent_length 1024 R.line_quotient_most) ∙ ap (λ (l : MessageLengths). l.line_quotient) table) c.third_round.ensures in
    printed_as (λ t. third_lines (done t).0 (done t).1) c.put_third_lines.ensures
