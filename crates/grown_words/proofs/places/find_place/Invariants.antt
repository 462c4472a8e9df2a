-- What the loop of `grown_words::places::find_place` keeps. Assumes nothing.
use Rattle.std.proofs.Common.{◌+◌, ◌≤◌}
use Rattle.domain.specs.Size.{max_size}
use Rattle.protocol.specs.Grown.{first_not_below, column_at}
use Rattle.grown_words.proofs.PlaceLaws.{Left}
use Rattle.grown_words.proofs.places.find_place.Given as goal

abbrev pub invariant-loop-count : goal.invariant-loop-count
invariant-loop-count l =
    (l.from + l.count ≤ max_size) × Left (column_at l.circuit l.matrix) l.column
    (first_not_below (column_at l.circuit l.matrix) l.column l.initial.count l.initial.from l.initial.count) l.from l.count

abbrev pub decreases-loop-count : goal.decreases-loop-count
decreases-loop-count l = l.count
