-- `record_writer::writer::trailer_words` meets its contract. Assumes nothing.
use Rattle.protocol.specs.Record.{section_lengths, starts_from, section_bytes, trailer}
use Rattle.record.specs.Layout.{bounds}
use Rattle.record_writer.proofs.writer.trailer_words.Goals as goal

pub returns : goal.returns
unfolding trailer bounds section_bytes section_lengths starts_from
returns c = rw c.section_bounds.ensures
