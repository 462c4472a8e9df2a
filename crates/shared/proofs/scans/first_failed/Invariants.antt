-- What the loop of `shared::scans::first_failed` keeps. Assumes nothing.
use Rattle.protocol.proofs.Rows.{Passed}
use Rattle.shared.specs.Meanings.{row_number}
use Rattle.shared.proofs.scans.first_failed.Given as goal

abbrev pub invariant-loop-i : goal.invariant-loop-i
invariant-loop-i l = Passed (row_number l.row) l.position l.tests l.i
