-- What the loop of `grown_words::places::find_row` keeps. Assumes nothing.
use Rattle.std.proofs.Common.{◌≡◌}
use Rattle.protocol.specs.Grown.{row_start}
use Rattle.grown_words.proofs.places.find_row.Given as goal

abbrev pub invariant-loop-count : goal.invariant-loop-count
invariant-loop-count l = l.start ≡ row_start l.circuit l.matrix l.count-index
