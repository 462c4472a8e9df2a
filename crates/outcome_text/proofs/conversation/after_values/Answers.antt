-- `outcome_text::conversation::after_values` meets its contract. Assumes nothing.
use mathlib.Core.Path.{ap, ◌∙◌}
use native.Mathlib.Omega.{arith}
use Rattle.domain.specs.BabyBear.{baby_bear}
use Rattle.protocol.specs.Messages.{MessageLengths, lengths}
use Rattle.protocol.specs.Session.{Session, Stepped, beta_step, delta_step}
use Rattle.shared.specs.Meanings.{three}
use Rattle.verifier.specs.Session.{session_meaning}
use Rattle.report.specs.Stages.{after_values}
use Rattle.outcome_text.proofs.conversation.after_values.Goals as goal

pub overflow_cast-due : goal.overflow_cast-due
unfolding lengths
overflow_cast-due c =
    omega (arith, c.well_formed, ap (λ (l : MessageLengths). l.line_remainder) c.message_lengths-due.ensures)

pub overflow_cast-due-2 : goal.overflow_cast-due-2
unfolding lengths
overflow_cast-due-2 c =
    omega (arith, c.well_formed, ap (λ (l : MessageLengths). l.line_quotient) c.message_lengths-due.ensures)

pub overflow_cast-remainders : goal.overflow_cast-remainders
unfolding lengths
overflow_cast-remainders c =
    omega (arith, c.well_formed, ap (λ (l : MessageLengths). l.matrix_remainders.a) c.message_lengths-due.ensures)

pub overflow_cast-remainders-2 : goal.overflow_cast-remainders-2
unfolding lengths
overflow_cast-remainders-2 c =
    omega (arith, c.well_formed, ap (λ (l : MessageLengths). l.matrix_remainders.b) c.message_lengths-due.ensures)

pub overflow_cast-remainders-3 : goal.overflow_cast-remainders-3
unfolding lengths
overflow_cast-remainders-3 c =
    omega (arith, c.well_formed, ap (λ (l : MessageLengths). l.matrix_remainders.c) c.message_lengths-due.ensures)

pub returns : goal.returns
unfolding after_values
returns c =
    let a = c.args in
    let table = c.message_lengths-due.ensures in
    let next : Stepped → Session = λ s. s.session in
    let third =
    ap next
    (c.beta.ensures
    ∙ (λ t. beta_step baby_bear (session_meaning a.before) (table t).line_remainder (table t).line_quotient a.beta)) in
    ap next (c.delta.ensures ∙ (λ t. delta_step baby_bear (third t) (three a.values) (table t).matrix_remainders (three a.delta)))
