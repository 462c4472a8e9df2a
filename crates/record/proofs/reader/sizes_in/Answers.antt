-- `record::reader::sizes_in` meets its contract. Assumes nothing.
use Rattle.protocol.specs.Record.{sizes_read}
use Rattle.record.proofs.reader.sizes_in.Goals as goal

pub returns : goal.returns
unfolding sizes_read
returns c = λ i. record {
  |R| = c.trailer_word.ensures i;
  |C| = c.trailer_word-2.ensures i;
  |X| = c.trailer_word-3.ensures i;
  |K| = record { a = c.trailer_word-4.ensures i; b = c.trailer_word-5.ensures i; c = c.trailer_word-6.ensures i };
}
