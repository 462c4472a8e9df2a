-- `field::multiply` meets its contract. Assumes nothing.
use Rattle.std.proofs.Common.{arith}
use Rattle.field.proofs.Words.{word_multiply}
use Rattle.field.proofs.multiply.Goals as goal

pub returns : goal.returns
returns c q e = grind (arith, word_multiply q c.args.a c.args.b)
