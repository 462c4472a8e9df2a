-- `figures::table::put_row` meets its contract. Assumes nothing.
use native.Mathlib.Omega.{arith}
use Rattle.figures.specs.Sheet.{row_text}
use Rattle.figures.proofs.TableLaws.{within-room, within_then, within_less}
use Rattle.figures.proofs.table.put_row.Goals as goal

pub returns : goal.returns
unfolding row_text
returns c =
    within_less (omega (arith, c.requires.count_le_most_circuits))
    (within_then c.put_name-place.ensures
    (within_then c.put_cells-place.ensures
    (within_then (within-room 1 (omega arith) c.put_byte-place.ensures)
    (within_then c.put_source-place.ensures (within-room 1 (omega arith) c.put_byte.ensures)))))
