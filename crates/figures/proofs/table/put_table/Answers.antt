-- `figures::table::put_table` meets its contract. Assumes nothing.
use Rattle.std.proofs.Common.{◌≡◌, ap, arith, rules, map, take}
use Rattle.std.proofs.lemmas.List.{take_all}
use Rattle.domain.specs.BabyBear.{baby_bear}
use Rattle.text.proofs.WrittenLaws.{written_none, written_as}
use Rattle.sheet_lines.specs.Meanings.{given}
use Rattle.figures.specs.Figures.{figures}
use Rattle.figures.specs.Sheet.{rows_text}
use Rattle.figures.proofs.TableLaws.{within-room, within-length, row_turn, length-figures}
use Rattle.figures.proofs.table.put_table.Goals as goal

pub loop-row-init : goal.loop-row-init
unfolding rows_text
loop-row-init c = within-room 0 (omega arith) (written_none c.args.out.now 0 (omega arith))

pub put_row-place-requires : goal.put_row-place-requires
put_row-place-requires c =
    record {
      row_lt_row_count = search rules;
      count_le_most_circuits = c.requires.count_le_most_circuits;
      row_room_in_bounds = omega (arith, c.requires.sheet_room_in_bounds, c.loop-row.invariant.within, within-length c.loop-row.invariant);
    }

pub loop-row-preserved : goal.loop-row-preserved
loop-row-preserved c =
    row_turn baby_bear (map given c.args.requests.now) c.loop-row.row (search rules) c.loop-row.invariant c.put_row-place.ensures

pub shape_of-out : goal.shape_of-out
shape_of-out c = within-length c.loop-row.invariant

pub returns : goal.returns
returns c =
    let l = c.loop-row in
    let all : take l.row (figures baby_bear) ≡ figures baby_bear =
    take_all l.row (figures baby_bear) (omega (arith, length-figures baby_bear)) in
    written_as (ap (rows_text (map given c.args.requests.now)) all) l.invariant.written
