-- `varuna_c::rounds::varuna_fourth_round` meets its contract. Assumes nothing.
use Rattle.std.proofs.Common.{ap, ◌∙◌}
use Rattle.std.specs.Prelude.{List, ℕ, length}
use Rattle.domain.specs.BabyBear.{baby_bear}
use Rattle.protocol.specs.Three.{Three}
use Rattle.circuit.specs.Given.{prover_input}
use Rattle.varuna.specs.Inputs.{three_of}
use Rattle.verifier.specs.Session.{three_at}
use Rattle.varuna.specs.Answers.{fills_three}
use Rattle.protocol.specs.Refusals.{Outcome}
use Rattle.protocol.specs.Calls.{fourth_round_call}
use Rattle.c_numbers.proofs.AnswerLaws.{three_filled_told}
use Rattle.varuna_c.proofs.rounds.varuna_fourth_round.Goals as goal

pub returns : goal.returns
returns c =
    let a = c.args in
    let i = prover_input a.r a.c a.x a.ea.now a.eb.now a.ec.now a.z.now a.mask a.m.now in
    let before = three_of a.ga.now a.gb.now a.gc.now in
    let call : Three ℕ → Outcome (Three ℕ × Three (List ℕ)) = λ η.
    fourth_round_call baby_bear i a.alpha η a.beta (three_of (length a.ga.now) (length a.gb.now) (length a.gc.now)) in
    three_filled_told before a.values.now (call (three_at a.eta.now 0)) c.give_three.ensures
    (c.fourth_round-answer.ensures ∙ ap (λ η. fills_three (call η) before) c.triple.ensures)
