-- `record::reader::layout_fault` meets its contract: the end, then the trailer. Assumes nothing.
use Rattle.std.proofs.Common.{sym, [], ◌∷◌, length}
use Rattle.protocol.specs.Record.{trailer_word, trailer_row}
use Rattle.shared.proofs.EarlyReturns.{stops, goes_on, last_answer_lem}
use Rattle.record.specs.Layout.{layout_refusal}
use Rattle.record.proofs.Rows.{end_long}
use Rattle.record.proofs.reader.layout_fault.Goals as goal

pub returns-in_err-end_fault : goal.returns-in_err-end_fault
unfolding layout_refusal
returns-in_err-end_fault c = stops _ _ c.from_residual.ensures.1 c.in_err-end_fault.ensures (trailer_row c.args.bytes.now ∷ [])

pub trailer_fault-requires : goal.trailer_fault-requires
trailer_fault-requires c =
    let bytes = c.args.bytes.now in
    end_long (length bytes) (trailer_word bytes 17) (sym c.in_ok-end_fault.ensures)

pub returns : goal.returns
unfolding layout_refusal
returns c = goes_on c.in_ok-end_fault.ensures (trailer_row c.args.bytes.now ∷ []) (last_answer_lem c.trailer_fault.ensures)
