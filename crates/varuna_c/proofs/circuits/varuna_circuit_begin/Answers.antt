-- `varuna_c::circuits::varuna_circuit_begin` meets its contract. Assumes nothing.
use Rattle.protocol.specs.Grown.{begin_call}
use Rattle.c_numbers.proofs.AnswerLaws.{filled_told}
use Rattle.varuna_c.proofs.circuits.varuna_circuit_begin.Goals as goal

pub returns : goal.returns
returns c =
    let a = c.args in
    filled_told a.circuit.now (begin_call a.r a.c a.x) c.give_filled.ensures c.begin-answer.ensures
