-- `varuna_c::session::varuna_session_ask` meets its contract. Assumes nothing.
use Rattle.std.proofs.Common.{ap, ap₂, ◌∙◌}
use Rattle.domain.specs.BabyBear.{baby_bear}
use Rattle.verifier.specs.Session.{three_at}
use Rattle.c_numbers.specs.Answers.{verdict_answered}
use Rattle.c_numbers.specs.Inputs.{openings_in}
use Rattle.shared.specs.Meanings.{openings}
use Rattle.protocol.specs.Session.{Stepped, ask_step}
use Rattle.varuna_c.proofs.session.varuna_session_ask.Goals as goal

pub returns : goal.returns
unfolding openings_in three_at
returns c =
    let opened = ap₂ openings c.messages_in.ensures c.indexes_in.ensures in
    c.give_verdict.ensures
    ∙ ap (λ (s : Stepped). verdict_answered s.answer)
    (c.ask-answer.ensures ∙ ap₂ (ask_step baby_bear) c.from_words-s.ensures opened)
