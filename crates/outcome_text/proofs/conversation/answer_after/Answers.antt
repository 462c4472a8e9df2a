-- `outcome_text::conversation::answer_after` meets its contract. Assumes nothing.
use mathlib.Core.Path.{ap, ◌∙◌}
use native.Mathlib.Omega.{arith}
use Rattle.domain.specs.BabyBear.{baby_bear}
use Rattle.protocol.specs.Circuit.{largest}
use Rattle.protocol.specs.Messages.{MessageLengths, lengths}
use Rattle.protocol.specs.Session.{Stepped, gamma_step, ask_step, commit_step}
use Rattle.shared.specs.Meanings.{openings}
use Rattle.verifier.specs.Session.{session_meaning}
use Rattle.report.specs.Stages.{answer_after}
use Rattle.outcome_text.proofs.conversation.answer_after.Goals as goal

pub overflow_cast-due : goal.overflow_cast-due
unfolding lengths largest
overflow_cast-due c =
    omega (arith, c.well_formed, ap (λ (l : MessageLengths). l.joined_quotient) c.message_lengths-due.ensures)

pub returns : goal.returns
unfolding answer_after
returns c =
    let a = c.args in
    let o = openings a.o a.index in
    let heard = ap (λ (s : Stepped). s.session)
    (c.gamma.ensures
    ∙ ap (λ (l : MessageLengths). gamma_step baby_bear (session_meaning a.before) l.joined_quotient a.gamma) c.message_lengths-due.ensures) in
    let asked = ap (λ (s : Stepped). s.session) (c.ask.ensures ∙ ap (λ s. ask_step baby_bear s o) heard) in
    ap (λ (s : Stepped). s.answer) (c.commit.ensures ∙ ap (λ s. commit_step baby_bear s o) asked)
