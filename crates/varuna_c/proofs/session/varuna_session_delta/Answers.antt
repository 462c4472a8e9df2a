-- `varuna_c::session::varuna_session_delta` meets its contract. Assumes nothing.
use Rattle.shared.specs.Meanings.{three}
use Rattle.std.proofs.Common.{ap, ap₂, ◌∙◌}
use Rattle.domain.specs.BabyBear.{baby_bear}
use Rattle.protocol.specs.Three.{Three}
use Rattle.std.specs.Prelude.{ℕ}
use Rattle.protocol.specs.Session as steps
use Rattle.verifier.specs.Session.{three_at, session_of}
use Rattle.c_numbers.specs.Answers.{step_answered}
use Rattle.protocol.specs.Session.{delta_step}
use Rattle.varuna_c.proofs.session.varuna_session_delta.Goals as goal

pub returns : goal.returns
returns c =
    let a = c.args in
    let step : steps.Session → Three ℕ → Three ℕ → Three ℕ → steps.Stepped = delta_step baby_bear in
    c.give_step.ensures
    ∙ ap (λ s. step_answered s a.session.now)
    (c.delta-next.ensures
    ∙ ap₂ (λ s v. step s v (three c.triple-2.result) (three c.triple-3.result))
    c.from_words-s.ensures c.triple.ensures
    ∙ ap₂ (step (session_of a.session.now) (three_at a.values.now 0)) c.triple-2.ensures c.triple-3.ensures)
