-- `record::reader::read` meets its contract. Assumes nothing.
use Rattle.std.proofs.Common.{sym, ap, ◌∙◌, [], ◌∷◌}
use Rattle.protocol.specs.Refusals.{Done}
use Rattle.protocol.specs.Record.{word_row}
use Rattle.protocol.proofs.Rows.{first_stop, first_pass}
use Rattle.shared.proofs.EarlyReturns.{exits_as}
use Rattle.record.proofs.Rows.{laid, record_rows_lem, read-refused, read_whole}
use Rattle.record.proofs.reader.read.Goals as goal

pub returns-in_err-layout_fault : goal.returns-in_err-layout_fault
returns-in_err-layout_fault c q e =
    let bytes = c.args.bytes.now in
    exits_as _ _ _ c.from_residual.ensures.1
    ∙ sym (read-refused bytes q (record_rows_lem bytes q ∙ first_stop (word_row bytes q ∷ []) (sym c.in_err-layout_fault.ensures)))

pub returns-in_err-section_words_fault : goal.returns-in_err-section_words_fault
returns-in_err-section_words_fault c q e =
    let bytes = c.args.bytes.now in
    let laid_out = first_pass (word_row bytes q) (sym c.in_ok-layout_fault.ensures) in
    exits_as _ _ _ c.from_residual-in_err-section_words_fault.ensures.1
    ∙ sym (read-refused bytes q (record_rows_lem bytes q ∙ laid_out ∙ sym (c.in_err-section_words_fault.ensures q e)))

pub sizes_in-requires : goal.sizes_in-requires
sizes_in-requires c = (laid c.args.bytes.now (sym c.in_ok-layout_fault.ensures)).long

pub returns : goal.returns
returns c q e =
    let bytes = c.args.bytes.now in
    let laid_out = first_pass (word_row bytes q) (sym c.in_ok-layout_fault.ensures) in
    ap Done c.sizes_in.ensures
    ∙ sym (read_whole bytes q (record_rows_lem bytes q ∙ laid_out ∙ sym (c.in_ok-section_words_fault.ensures q e)))
