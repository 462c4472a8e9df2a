-- What the loop of `circuit::checks::check_lent` keeps. Assumes nothing.
use lib.Dec.{eqb}
use Rattle.protocol.specs.Refusals.{pairs}
use Rattle.protocol.proofs.Rows.{Passed}
use Rattle.circuit.proofs.checks.check_lent.Given as goal

abbrev pub invariant-loop-i : goal.invariant-loop-i
invariant-loop-i l = Passed 5 l.start (pairs eqb l.lent l.due) l.i
