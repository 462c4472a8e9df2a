-- `field::subtract_reduced` meets its contract. Assumes nothing.
use Rattle.std.proofs.Common.{arith}
use Rattle.field.proofs.Words.{difference_above, difference_below}
use Rattle.field.proofs.subtract_reduced.Goals as goal

pub returns-then-b-a : goal.returns-then-b-a
returns-then-b-a c q e below = grind (arith, difference_above q c.args.a c.args.b)

pub returns-else-b-a : goal.returns-else-b-a
returns-else-b-a c q e below = grind (arith, difference_below q c.args.a c.args.b)
