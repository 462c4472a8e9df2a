-- `blinding::columns::reserved_columns` meets its contract. Assumes nothing.
use Rattle.std.proofs.Common.{arith}
use Rattle.domain.proofs.SizeLaws.{size_bound}
use Rattle.blinding.proofs.Reserved.{alternating, consecutive}
use Rattle.blinding.proofs.columns.reserved_columns.Goals as goal

pub overflow_mul-x : goal.overflow_mul-x
overflow_mul-x c = omega (arith, size_bound _ c.requires.X-size)

pub returns-then-c-x : goal.returns-then-c-x
returns-then-c-x c k columns publics = alternating k columns publics c.requires c.if-c-x.true

pub returns : goal.returns
returns c k columns publics = consecutive k columns publics c.requires c.if-c-x.false
