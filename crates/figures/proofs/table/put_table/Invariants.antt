-- What the loop of `figures::table::put_table` keeps: the first rows stand in the buffer. Assumes nothing.
use Rattle.std.proofs.Common.{map, ◌*◌, take}
use Rattle.domain.specs.BabyBear.{baby_bear}
use Rattle.sheet_lines.specs.Meanings.{given}
use Rattle.figures.specs.Figures.{figures}
use Rattle.figures.specs.Placed.{Within, row_room}
use Rattle.figures.specs.Sheet.{rows_text}
use Rattle.figures.proofs.table.put_table.Given as goal

abbrev pub invariant-loop-row : goal.invariant-loop-row
invariant-loop-row l =
    Within (row_room * l.row) l.initial.out 0 (rows_text (map given l.requests) (take l.row (figures baby_bear))) l.place l.out
