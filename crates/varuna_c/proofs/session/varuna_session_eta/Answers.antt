-- `varuna_c::session::varuna_session_eta` meets its contract. Assumes nothing.
use Rattle.shared.specs.Meanings.{three}
use Rattle.std.proofs.Common.{ap, ap₂, ◌∙◌}
use Rattle.domain.specs.BabyBear.{baby_bear}
use Rattle.protocol.specs.Three.{Three}
use Rattle.std.specs.Prelude.{ℕ}
use Rattle.protocol.specs.Session as steps
use Rattle.verifier.specs.Session.{session_of}
use Rattle.c_numbers.specs.Answers.{step_answered}
use Rattle.protocol.specs.Session.{eta_step}
use Rattle.varuna_c.proofs.session.varuna_session_eta.Goals as goal

pub returns : goal.returns
returns c =
    let a = c.args in
    let step : steps.Session → Three ℕ → Three ℕ → steps.Stepped = eta_step baby_bear in
    c.give_step.ensures
    ∙ ap (λ s. step_answered s a.session.now)
    (c.eta-next.ensures
    ∙ ap (λ s. step s (three c.triple.result) (three c.triple-2.result)) c.from_words-s.ensures
    ∙ ap₂ (step (session_of a.session.now)) c.triple.ensures c.triple-2.ensures)
