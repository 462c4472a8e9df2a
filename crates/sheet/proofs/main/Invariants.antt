-- What is read lies within its array.
use Rattle.std.proofs.Common.{◌-◌, ◌≤◌}
use Rattle.sheet.proofs.main.Given as goal

abbrev pub invariant-loop-n : goal.invariant-loop-n
invariant-loop-n l = l.n ≤ 2049

abbrev pub decreases-loop-n : goal.decreases-loop-n
decreases-loop-n l = 2049 - l.n
