-- What the loop of `sheet_lines::numbers::scan_all` keeps: what is left of the text leads to the same state. Assumes nothing.
use Rattle.std.proofs.Common.{◌≡◌, drop}
use Rattle.std.specs.Prelude.{Some}
use Rattle.sheet_lines.specs.Scanning.{scanned_on, scanned}
use Rattle.sheet_lines.proofs.numbers.scan_all.Given as goal

abbrev pub invariant-loop-b : goal.invariant-loop-b
invariant-loop-b l = scanned_on (Some l.s) (drop l.b-index l.text) ≡ scanned l.text
