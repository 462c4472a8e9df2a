-- `varuna_c::session::varuna_session_gamma` meets its contract. Assumes nothing.
use Rattle.std.proofs.Common.{ap, ◌∙◌}
use Rattle.domain.specs.BabyBear.{baby_bear}
use Rattle.c_numbers.specs.Answers.{step_answered}
use Rattle.protocol.specs.Session.{gamma_step}
use Rattle.varuna_c.proofs.session.varuna_session_gamma.Goals as goal

pub returns : goal.returns
returns c =
    let a = c.args in
    c.give_step.ensures
    ∙ ap (λ s. step_answered s a.session.now)
    (c.gamma-next.ensures ∙ ap (λ s. gamma_step baby_bear s a.quotient a.gamma) c.from_words-s.ensures)
