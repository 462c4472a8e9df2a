-- `field::add` meets its contract. Assumes nothing.
use Rattle.std.proofs.Common.{arith}
use Rattle.field.proofs.Words.{word-add}
use Rattle.field.proofs.add.Goals as goal

pub returns : goal.returns
returns c q e = grind (arith, word-add q c.args.a c.args.b)
