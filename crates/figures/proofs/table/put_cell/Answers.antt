-- `figures::table::put_cell` meets its contract. Assumes nothing.
use native.Mathlib.Omega.{arith}
use Rattle.figures.specs.Sheet.{cell_text}
use Rattle.figures.proofs.TableLaws.{within-room, within_then}
use Rattle.figures.proofs.table.put_cell.Goals as goal

pub returns : goal.returns
unfolding cell_text
returns c =
    within_then (within-room 1 (omega arith) c.put_byte-place.ensures) c.put_number.ensures
