-- `varuna_c::circuits::varuna_circuit_remove` meets its contract. Assumes nothing.
use Rattle.protocol.specs.Grown.{remove_entry_call}
use Rattle.c_numbers.proofs.AnswerLaws.{filled_told}
use Rattle.varuna_c.proofs.circuits.varuna_circuit_remove.Goals as goal

pub returns : goal.returns
returns c =
    let a = c.args in
    filled_told a.circuit.now (remove_entry_call a.circuit.now a.matrix a.row a.column) c.give_filled.ensures
    c.remove_entry-answer.ensures
