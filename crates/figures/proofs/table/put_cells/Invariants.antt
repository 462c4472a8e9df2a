-- What the loop of `figures::table::put_cells` keeps: the cells of the first circuits stand in the buffer. Assumes nothing.
use Rattle.std.proofs.Common.{map, ◌*◌, take}
use Rattle.domain.specs.BabyBear.{baby_bear}
use Rattle.sheet_lines.specs.Meanings.{given}
use Rattle.figures.specs.Placed.{figure_at, Within, cell_room}
use Rattle.figures.specs.Sheet.{cells_text}
use Rattle.figures.proofs.table.put_cells.Given as goal

abbrev pub invariant-loop-request : goal.invariant-loop-request
invariant-loop-request l =
    Within (cell_room * l.request-index) l.initial.out l.at
    (cells_text (figure_at baby_bear l.row) (map given (take l.request-index l.requests))) l.place l.out
