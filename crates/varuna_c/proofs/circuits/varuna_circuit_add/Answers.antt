-- `varuna_c::circuits::varuna_circuit_add` meets its contract. Assumes nothing.
use Rattle.domain.specs.BabyBear.{baby_bear}
use Rattle.protocol.specs.Grown.{add_entry_call}
use Rattle.c_numbers.proofs.AnswerLaws.{filled_told}
use Rattle.varuna_c.proofs.circuits.varuna_circuit_add.Goals as goal

pub returns : goal.returns
returns c =
    let a = c.args in
    filled_told a.circuit.now (add_entry_call baby_bear a.circuit.now a.matrix
    (record { row = a.row; column = a.column; value = a.value })) c.give_filled.ensures c.add_entry-answer.ensures
