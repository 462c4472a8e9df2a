-- `varuna_c::blinder::varuna_blind` meets its contract. Assumes nothing.
use Rattle.std.proofs.Common.{ap, ◌∙◌}
use Rattle.std.specs.Prelude.{List, ℕ, length}
use Rattle.domain.specs.BabyBear.{baby_bear}
use Rattle.protocol.specs.Three.{Three, map_three}
use Rattle.protocol.specs.Refusals.{Outcome}
use Rattle.protocol.specs.Calls.{CircuitWords}
use Rattle.protocol.specs.Blinded.{blind_call}
use Rattle.circuit.specs.Given.{given}
use Rattle.verifier.specs.Session.{three_at}
use Rattle.varuna.specs.Answers.{fills}
use Rattle.varuna.specs.Inputs.{three_of}
use Rattle.c_numbers.proofs.AnswerLaws.{filled_told}
use Rattle.varuna_c.proofs.blinder.varuna_blind.Goals as goal

pub returns : goal.returns
returns c =
    let a = c.args in
    let circuit : CircuitWords = given a.r a.c a.x a.ea.now a.eb.now a.ec.now in
    let lists : Three (List ℕ) = three_of a.blinded_a.now a.blinded_b.now a.blinded_c.now in
    let before : Three (List ℕ) × List ℕ = (lists, a.blinded_z.now) in
    let call : Three ℕ → Outcome (Three (List ℕ) × List ℕ) = λ ρ.
    blind_call baby_bear circuit a.z.now ρ (map_three length lists) (length a.blinded_z.now) in
    filled_told before (call (three_at a.rho.now 0)) c.give_filled.ensures
    (c.blind-answer.ensures ∙ ap (λ ρ. fills (call ρ) before) c.triple.ensures)
