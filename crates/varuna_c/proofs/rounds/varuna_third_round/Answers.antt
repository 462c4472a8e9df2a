-- `varuna_c::rounds::varuna_third_round` meets its contract. Assumes nothing.
use Rattle.std.proofs.Common.{ap, ◌∙◌}
use Rattle.std.specs.Prelude.{List, ℕ, length}
use Rattle.domain.specs.BabyBear.{baby_bear}
use Rattle.protocol.specs.Three.{Three}
use Rattle.circuit.specs.Given.{prover_input}
use Rattle.verifier.specs.Session.{three_at}
use Rattle.varuna.specs.Answers.{fills}
use Rattle.protocol.specs.Refusals.{Outcome}
use Rattle.protocol.specs.Calls.{third_round_call}
use Rattle.c_numbers.proofs.AnswerLaws.{filled_told}
use Rattle.varuna_c.proofs.rounds.varuna_third_round.Goals as goal

pub returns : goal.returns
returns c =
    let a = c.args in
    let i = prover_input a.r a.c a.x a.ea.now a.eb.now a.ec.now a.z.now a.mask a.m.now in
    let before : List ℕ × List ℕ = (a.remainder.now, a.quotient.now) in
    let call : Three ℕ → Outcome (List ℕ × List ℕ) = λ η.
    third_round_call baby_bear i a.alpha η (length a.remainder.now) (length a.quotient.now) in
    filled_told before (call (three_at a.eta.now 0)) c.give_filled.ensures
    (c.third_round-answer.ensures ∙ ap (λ η. fills (call η) before) c.triple.ensures)
