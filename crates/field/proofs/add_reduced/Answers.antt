-- `field::add_reduced` meets its contract. Assumes nothing.
use Rattle.std.proofs.Common.{arith}
use Rattle.field.proofs.Words.{sum_below, sum_above}
use Rattle.field.proofs.add_reduced.Goals as goal

pub returns-then-a-room : goal.returns-then-a-room
returns-then-a-room c q e below = grind (arith, sum_below q c.args.a c.args.b)

pub returns-else-a-room : goal.returns-else-a-room
returns-else-a-room c q e below = grind (arith, sum_above q c.args.a c.args.b)
