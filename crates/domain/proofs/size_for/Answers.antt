-- `domain::size_for` meets its contract. Assumes nothing.
use Rattle.std.proofs.Common.{sym}
use Rattle.domain.proofs.SizeLaws.{next-power, size_for_past}
use Rattle.domain.proofs.size_for.Goals as goal

pub returns-then-count-gt-MAX_SIZE : goal.returns-then-count-gt-MAX_SIZE
returns-then-count-gt-MAX_SIZE c = sym (size_for_past c.args.count c.if-count-gt-MAX_SIZE.true)

pub returns : goal.returns
returns c =
    let next = c.next_power_of_two.ensures in
    let (k, power) = next.power in
    next-power c.args.count c.if-count-gt-MAX_SIZE.false k power next.lower_bound next.upper_bound
