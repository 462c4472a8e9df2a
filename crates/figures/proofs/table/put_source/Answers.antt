-- `figures::table::put_source` meets its contract. Assumes nothing.
use mathlib.Core.Path.{refl}
use Rattle.domain.specs.BabyBear.{baby_bear}
use Rattle.figures.specs.Figures.{figures}
use Rattle.figures.specs.Placed.{source_room}
use Rattle.figures.proofs.TableLaws.{label_room, label_put, source_of, sources_short, sources_lines}
use Rattle.figures.proofs.table.put_source.Goals as goal

pub put_line-requires : goal.put_line-requires
unfolding figures
put_line-requires c =
    let room =
    label_room baby_bear source_of refl source_room (sources_short baby_bear) (sources_lines baby_bear) c.args.row c.requires.row_lt_row_count
    c.args.at _ c.requires.source_room_in_bounds in
    record { n_in_bounds = room.0; n_in_bounds_2 = room.1 }

pub returns : goal.returns
unfolding figures
returns c =
    label_put baby_bear source_of refl source_room (sources_short baby_bear) (sources_lines baby_bear) c.args.row c.put_line.ensures
