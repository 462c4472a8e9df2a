-- `varuna_c::circuits::varuna_circuit_begin_from` meets its contract. Assumes nothing.
use Rattle.domain.specs.BabyBear.{baby_bear}
use Rattle.protocol.specs.Grown.{begin_from_call}
use Rattle.circuit.specs.Given.{given}
use Rattle.c_numbers.proofs.AnswerLaws.{filled_told}
use Rattle.varuna_c.proofs.circuits.varuna_circuit_begin_from.Goals as goal

pub returns : goal.returns
returns c =
    let a = c.args in
    filled_told a.circuit.now (begin_from_call baby_bear (given a.r a.c a.x a.ea.now a.eb.now a.ec.now))
    c.give_filled.ensures c.begin_from-answer.ensures
