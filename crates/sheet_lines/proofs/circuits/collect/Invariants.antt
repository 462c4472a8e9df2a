-- What the loop of `sheet_lines::circuits::collect` keeps: the circuits of the lines so far. Assumes nothing.
use Rattle.std.proofs.Common.{map, length, take}
use Rattle.sheet_lines.specs.Lines.{line_of, circuits}
use Rattle.sheet_lines.specs.Meanings.{Kept}
use Rattle.sheet_lines.proofs.LineLaws.{parts}
use Rattle.sheet_lines.proofs.circuits.collect.Given as goal

abbrev pub invariant-loop-line : goal.invariant-loop-line
invariant-loop-line l = Kept (circuits (map line_of (take (length l.yielded) (parts l.text)))) l.circuits.array l.circuits.count
