-- What the loop of `grown::beginnings::count_rows` keeps. Assumes nothing.
use Rattle.std.proofs.Common.{◌≡◌, length}
use Rattle.protocol.specs.Calls.{entries_of}
use Rattle.grown.proofs.BeginningLaws.{counts_after}
use Rattle.grown.proofs.beginnings.count_rows.Given as goal

abbrev pub invariant-loop-i : goal.invariant-loop-i
invariant-loop-i l = l.out ≡ counts_after (entries_of l.entries) (length l.fn.out) l.i
