-- `matrix_sumcheck::values::values_by_lists` meets its contract: one matrix after the other. Assumes nothing.
use Rattle.protocol.specs.Three.{A, B, C}
use Rattle.protocol.specs.Messages.{values}
use Rattle.matrix_sumcheck.proofs.values.values_by_lists.Goals as goal

pub returns : goal.returns
unfolding values
returns c q k r n alpha beta G H L =
    let a = c.value_into.ensures q k A r n alpha beta (G A) H L in
    let b = c.value_into-2.ensures q k B r n alpha beta (G B) H L in
    let c = c.value_into-3.ensures q k C r n alpha beta (G C) H L in
    record {
      remainder-a = a.is-remainder;
      remainder-b = b.is-remainder;
      remainder-c = c.is-remainder;
      are_values = λ t. record { a = a.is-value t; b = b.is-value t; c = c.is-value t };
    }
