-- What the loop of `record_writer::judging::lengths_fault` keeps. Assumes nothing.
use Rattle.std.proofs.Common.{map, length, eqb}
use Rattle.protocol.specs.Refusals.{pairs}
use Rattle.protocol.proofs.Rows.{Passed}
use Rattle.record_writer.specs.Sections.{lists}
use Rattle.record_writer.proofs.judging.lengths_fault.Given as goal

abbrev pub invariant-loop-k : goal.invariant-loop-k
invariant-loop-k l = Passed 5 0 (pairs eqb (map length (lists l.sections)) l.due) l.k
