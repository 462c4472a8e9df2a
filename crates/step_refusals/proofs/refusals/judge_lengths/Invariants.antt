-- What the loop of `step_refusals::refusals::judge_lengths` keeps. Assumes nothing.
use Rattle.std.proofs.Common.{leb}
use Rattle.protocol.specs.Refusals.{pairs}
use Rattle.protocol.proofs.Rows.{Passed}
use Rattle.step_refusals.proofs.refusals.judge_lengths.Given as goal

abbrev pub invariant-loop-i : goal.invariant-loop-i
invariant-loop-i l = Passed 11 0 (pairs leb l.declared l.most) l.i
