-- What the loop of `report::lines::put_numbers` keeps. Assumes nothing.
use Rattle.std.specs.Prelude.{◌*◌, take}
use Rattle.report.specs.Printed.{Printed, numbers}
use Rattle.report.proofs.lines.put_numbers.Given as goal

abbrev pub invariant-loop-word : goal.invariant-loop-word
invariant-loop-word l = Printed l.initial.out l.at (numbers (take l.word-index l.words)) (11 * l.word-index) l.next l.out
