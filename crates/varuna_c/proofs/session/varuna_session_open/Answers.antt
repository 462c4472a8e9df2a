-- `varuna_c::session::varuna_session_open` meets its contract. Assumes nothing.
use Rattle.std.proofs.Common.{ap, ap₂, ◌∙◌}
use Rattle.domain.specs.BabyBear.{baby_bear}
use Rattle.c_numbers.specs.Answers.{step_answered}
use Rattle.protocol.specs.Session.{open_step}
use Rattle.varuna_c.proofs.session.varuna_session_open.Goals as goal

pub returns : goal.returns
returns c =
    let a = c.args in
    c.give_step.ensures
    ∙ ap (λ s. step_answered s a.session.now)
    (c.open-next.ensures
    ∙ ap₂ (λ s n. open_step baby_bear s n a.x.now) c.from_words-s.ensures c.sizes_in.ensures)
