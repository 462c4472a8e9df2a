-- `varuna_c::session::varuna_session_commit` meets its contract. Assumes nothing.
use Rattle.std.proofs.Common.{ap, ap₂, ◌∙◌}
use Rattle.domain.specs.BabyBear.{baby_bear}
use Rattle.verifier.specs.Session.{three_at}
use Rattle.c_numbers.specs.Answers.{commit_answered}
use Rattle.c_numbers.specs.Inputs.{openings_in}
use Rattle.shared.specs.Meanings.{openings}
use Rattle.protocol.specs.Session.{commit_step}
use Rattle.varuna_c.proofs.session.varuna_session_commit.Goals as goal

pub returns : goal.returns
unfolding openings_in three_at
returns c =
    let a = c.args in
    let opened = ap₂ openings c.messages_in.ensures c.indexes_in.ensures in
    c.give_commit.ensures
    ∙ ap (λ s. commit_answered s a.session.now)
    (c.commit-next.ensures ∙ ap₂ (commit_step baby_bear) c.from_words-s.ensures opened)
