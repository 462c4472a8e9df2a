-- What the loop of `sheet_lines::circuits::first_wrong` keeps: the first wrong line is among those that are left. Assumes nothing.
use Rattle.std.proofs.Common.{◌≡◌, map, ◌+◌, length, drop}
use Rattle.sheet_lines.specs.Lines.{lines_of, line_of, wrong}
use Rattle.sheet_lines.proofs.LineLaws.{parts}
use Rattle.sheet_lines.proofs.circuits.first_wrong.Given as goal

abbrev pub invariant-loop-i : goal.invariant-loop-i
invariant-loop-i l =
    wrong 1 (map line_of (lines_of l.text)) ≡ wrong (length l.yielded + 1) (map line_of (drop (length l.yielded) (parts l.text)))
