-- `varuna_c::rounds::varuna_openings` meets its contract. Assumes nothing.
use Rattle.std.proofs.Common.{ap, ap₂, ◌∙◌}
use Rattle.domain.specs.BabyBear.{baby_bear}
use Rattle.protocol.specs.Three.{Three}
use Rattle.std.specs.Prelude.{List, ℕ}
use Rattle.circuit.specs.Given.{prover_input}
use Rattle.protocol.specs.Refusals.{Outcome}
use Rattle.protocol.specs.Calls.{openings_call}
use Rattle.c_numbers.specs.Answers.{answered}
use Rattle.varuna_c.proofs.rounds.varuna_openings.Goals as goal

pub returns : goal.returns
returns c =
    let a = c.args in
    let i = prover_input a.r a.c a.x a.ea.now a.eb.now a.ec.now a.z.now a.mask a.m.now in
    let before = a.openings.now in
    let call : Three ℕ → Three ℕ → Outcome (List ℕ) = λ η δ. openings_call baby_bear i a.alpha η a.beta δ a.gamma in
    c.give_openings.ensures
    ∙ ap (λ o. answered o before) (c.openings-answer.ensures ∙ ap₂ call c.triple.ensures c.triple-2.ensures)
