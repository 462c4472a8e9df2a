-- What the loop of `prover::rows::entries_sum` keeps. Assumes nothing.
use Rattle.std.proofs.Common.{◌≡◌, map}
use Rattle.field.specs.Prime.{Prime}
use Rattle.field.specs.Element.{of}
use Rattle.protocol.specs.Calls.{entries_of}
use Rattle.prover.proofs.RowLaws.{Totalled}
use Rattle.prover.proofs.rows.entries_sum.Given as goal

abbrev pub invariant-loop-i : goal.invariant-loop-i
invariant-loop-i l = (q : Prime) → q.p ≡ l.p → Totalled q (map of l.rows) (map of l.z) (entries_of l.entries) l.sum l.i
