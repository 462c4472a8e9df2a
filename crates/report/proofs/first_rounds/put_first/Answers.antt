-- `report::first_rounds::put_first` meets its contract. Assumes nothing.
use Rattle.std.proofs.Common.{sym, ap, ◌∙◌}
use Rattle.protocol.specs.Messages.{MessageLengths}
use Rattle.poly.proofs.LentParts.{part_order, lent_length}
use Rattle.report.specs.Stages.{first_lines, first_text}
use Rattle.report.proofs.PrintedLaws.{printed_as}
use Rattle.report.proofs.Bounds.{roomy, mask_most}
use Rattle.report.proofs.RoundResults.{first_done}
use Rattle.report.proofs.first_rounds.put_first.Goals as goal

pub slice_bounds-witness_words-end : goal.slice_bounds-witness_words-end
slice_bounds-witness_words-end c = (roomy _ c.requires.free c.lengths_of-due.ensures).witness_most

pub slice_bounds-witness-end : goal.slice_bounds-witness-end
slice_bounds-witness-end c = lent_length 1024 (roomy _ c.requires.free c.lengths_of-due.ensures).witness_most

pub slice_bounds-quotient_words-end : goal.slice_bounds-quotient_words-end
slice_bounds-quotient_words-end c = (roomy _ c.requires.free c.lengths_of-due.ensures).row_quotient_most

pub slice_bounds-quotient-end : goal.slice_bounds-quotient-end
slice_bounds-quotient-end c = lent_length 1024 (roomy _ c.requires.free c.lengths_of-due.ensures).row_quotient_most

pub put_first_lines-requires-clause-witness_len_bound : goal.put_first_lines-requires-clause-witness_len_bound
put_first_lines-requires-clause-witness_len_bound c =
    let R = roomy _ c.requires.free c.lengths_of-due.ensures in
    let filled = c.first_round.auto in (
      part_order (lent_length 1024 R.witness_most ∙ sym filled.witness) R.witness_most,
      mask_most _ c.requires.free,
      part_order (lent_length 1024 R.row_quotient_most ∙ sym filled.row_quotient) R.row_quotient_most,
    )

pub returns : goal.returns
unfolding first_text
returns c =
    let R = roomy _ c.requires.free c.lengths_of-due.ensures in
    let table = c.lengths_of-due.ensures in
    let done =
    first_done _ _ c.requires.free (sym (lent_length 1024 R.witness_most) ∙ ap (λ (l : MessageLengths). l.witness) table)
    (sym (lent_length 1024 R.row_quotient_most) ∙ ap (λ (l : MessageLengths). l.row_quotient) table) c.first_round.ensures in
    printed_as (λ t. first_lines (done t).0 c.args.input.now.m.now (done t).1) c.put_first_lines.ensures
