-- `circuit::matrices::largest_size` meets its contract. Assumes nothing.
use Rattle.std.proofs.Common.{List, length, sym, ap, ◌∙◌}
use Rattle.domain.specs.Size.{size_for}
use Rattle.protocol.specs.Circuit.{Entry, largest, sizes_of}
use Rattle.protocol.specs.Three.{map_three}
use Rattle.circuit.proofs.matrices.largest_size.Goals as goal

pub returns : goal.returns
unfolding sizes_of
returns c k matrices = c.largest.ensures ∙ ap largest (c.matrix_sizes.ensures ∙ ap (map_three (λ (l : List Entry). size_for (length l))) (sym matrices))
