-- `varuna_c::rounds::varuna_first_round` meets its contract. Assumes nothing.
use Rattle.std.specs.Prelude.{List, ℕ, length}
use Rattle.domain.specs.BabyBear.{baby_bear}
use Rattle.circuit.specs.Given.{prover_input}
use Rattle.protocol.specs.Calls.{first_round_call}
use Rattle.c_numbers.proofs.AnswerLaws.{filled_told}
use Rattle.varuna_c.proofs.rounds.varuna_first_round.Goals as goal

pub returns : goal.returns
returns c =
    let a = c.args in
    let i = prover_input a.r a.c a.x a.ea.now a.eb.now a.ec.now a.z.now a.mask a.m.now in
    let before : List ℕ × List ℕ = (a.witness.now, a.row_quotient.now) in
    filled_told before (first_round_call baby_bear i (length a.witness.now) (length a.row_quotient.now))
    c.give_filled.ensures c.first_round-answer.ensures
