-- `domain::is_size` meets its contract. Assumes nothing.
use Rattle.std.proofs.Common.{arith}
use Rattle.domain.proofs.SizeDigits.{size_ones, size_past}
use Rattle.domain.proofs.is_size.Goals as goal

pub returns-then-n-le-MAX_SIZE : goal.returns-then-n-le-MAX_SIZE
returns-then-n-le-MAX_SIZE c = size_ones c.args.n c.if-n-le-MAX_SIZE.true

pub returns-else-n-le-MAX_SIZE : goal.returns-else-n-le-MAX_SIZE
returns-else-n-le-MAX_SIZE c = grind (arith, size_past c.args.n)
