-- What the loop of `prover::line::add_column_sums` keeps. Assumes nothing.
use Rattle.std.proofs.Common.{◌≡◌, map}
use Rattle.field.specs.Prime.{Prime}
use Rattle.field.specs.Element.{of}
use Rattle.protocol.specs.Calls.{entries_of}
use Rattle.prover.proofs.LineLaws.{Adding}
use Rattle.prover.proofs.line.add_column_sums.Given as goal

abbrev pub invariant-loop-i : goal.invariant-loop-i
invariant-loop-i l =
    (q : Prime) → q.p ≡ l.p → Adding q (of l.eta) (map of l.rows) (entries_of l.entries) l.initial.out l.out l.i
