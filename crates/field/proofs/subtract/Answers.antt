-- `field::subtract` meets its contract. Assumes nothing.
use Rattle.std.proofs.Common.{arith}
use Rattle.field.proofs.Words.{word_subtract}
use Rattle.field.proofs.subtract.Goals as goal

pub returns : goal.returns
returns c q e = grind (arith, word_subtract q c.args.a c.args.b)
