-- `record::layout::section_lengths` meets its contract: the lengths are the table's. Assumes nothing.
use Rattle.protocol.specs.Record.{section_lengths}
use Rattle.record.proofs.layout.section_lengths.Goals as goal

pub returns : goal.returns
unfolding section_lengths
returns c = rw (← c.message_lengths-l.ensures)
