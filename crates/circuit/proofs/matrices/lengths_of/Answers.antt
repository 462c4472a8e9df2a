-- `circuit::matrices::lengths_of` meets its contract. Assumes nothing.
use Rattle.std.proofs.Common.{ap, ◌∙◌}
use Rattle.protocol.specs.Messages.{lengths}
use Rattle.circuit.proofs.matrices.lengths_of.Goals as goal

pub returns : goal.returns
returns c = c.message_lengths.ensures ∙ ap lengths c.sizes_of.ensures
