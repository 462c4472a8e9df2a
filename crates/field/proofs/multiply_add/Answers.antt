-- `field::multiply_add` meets its contract. Assumes nothing.
use Rattle.std.proofs.Common.{arith}
use Rattle.field.proofs.Words.{word_multiply_add}
use Rattle.field.proofs.multiply_add.Goals as goal

pub returns : goal.returns
returns c q e = grind (arith, word_multiply_add q c.args.a c.args.b c.args.c)
