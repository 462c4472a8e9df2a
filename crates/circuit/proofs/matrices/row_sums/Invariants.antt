-- What the loop of `circuit::matrices::row_sums` keeps. Assumes nothing.
use Rattle.std.proofs.Common.{◌≡◌, map}
use Rattle.field.specs.Prime.{Prime}
use Rattle.field.specs.Element.{of}
use Rattle.protocol.specs.Calls.{entries_of}
use Rattle.circuit.proofs.Sums.{Summed}
use Rattle.circuit.proofs.matrices.row_sums.Given as goal

abbrev pub invariant-loop-i : goal.invariant-loop-i
invariant-loop-i l = (q : Prime) → q.p ≡ l.p → Summed (map (of {q = q}) l.z) (entries_of l.entries) l.out l.i
