-- `figures::table::put_name` meets its contract. Assumes nothing.
use mathlib.Core.Path.{refl}
use Rattle.domain.specs.BabyBear.{baby_bear}
use Rattle.figures.specs.Figures.{figures}
use Rattle.figures.specs.Placed.{name_room}
use Rattle.figures.proofs.TableLaws.{label_room, label_put, name_of, names_short, names_lines}
use Rattle.figures.proofs.table.put_name.Goals as goal

pub put_line-requires : goal.put_line-requires
unfolding figures
put_line-requires c =
    let room =
    label_room baby_bear name_of refl name_room (names_short baby_bear) (names_lines baby_bear) c.args.row c.requires.row_lt_row_count
    c.args.at _ c.requires.name_room_in_bounds in
    record { n_in_bounds = room.0; n_in_bounds_2 = room.1 }

pub returns : goal.returns
unfolding figures
returns c =
    label_put baby_bear name_of refl name_room (names_short baby_bear) (names_lines baby_bear) c.args.row c.put_line.ensures
