-- `record::reader::word_at` meets its contract. Assumes nothing.
use Rattle.std.proofs.Common.{arith}
use Rattle.std.proofs.Math.Nat.{add-zero}
use Rattle.protocol.specs.Record.{word_at}
use Rattle.record.proofs.reader.word_at.Goals as goal

pub returns : goal.returns
unfolding word_at
returns c = rw add-zero (omega (arith, c.from_le_bytes.ensures))
