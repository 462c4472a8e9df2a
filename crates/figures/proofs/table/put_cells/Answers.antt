-- `figures::table::put_cells` meets its contract. Assumes nothing.
use Rattle.std.proofs.Common.{◌≡◌, arith, length}
use Rattle.std.proofs.lemmas.List.{take_all}
use Rattle.domain.specs.BabyBear.{baby_bear}
use Rattle.text.proofs.WrittenLaws.{written_none}
use Rattle.figures.specs.Placed.{figure_at}
use Rattle.figures.specs.Sheet.{cells_text}
use Rattle.figures.proofs.TableLaws.{within-room, within-length, cell_turn}
use Rattle.figures.proofs.table.put_cells.Goals as goal

pub loop-request-init : goal.loop-request-init
unfolding cells_text
loop-request-init c = within-room 0 (omega arith) (written_none c.args.out.now c.args.at (omega (arith, c.requires)))

pub put_cell-place-requires : goal.put_cell-place-requires
put_cell-place-requires c =
    record {
      row_lt_row_count = c.requires.row_lt_row_count;
      cell_room_in_bounds =
          omega (arith, c.requires.count_in_bounds, c.loop-request.invariant.within, within-length c.loop-request.invariant);
    }

pub loop-request-preserved : goal.loop-request-preserved
loop-request-preserved c =
    let l = c.loop-request in
    cell_turn (figure_at baby_bear c.args.row) c.args.requests.now l.request-index _ (omega arith) l.invariant c.put_cell-place.ensures

pub shape_of-out : goal.shape_of-out
shape_of-out c = within-length c.loop-request.invariant

pub returns : goal.returns
returns c =
    let l = c.loop-request in
    let all : l.request-index ≡ length c.args.requests.now = omega arith in
    rw (all, take_all (length c.args.requests.now) c.args.requests.now (omega arith)) at l.invariant
