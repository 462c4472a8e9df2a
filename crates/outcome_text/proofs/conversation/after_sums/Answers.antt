-- `outcome_text::conversation::after_sums` meets its contract. Assumes nothing.
use mathlib.Core.Path.{ap, ◌∙◌}
use native.Mathlib.Omega.{arith}
use Rattle.domain.specs.BabyBear.{baby_bear}
use Rattle.protocol.specs.Messages.{MessageLengths, lengths}
use Rattle.protocol.specs.Session.{Session, Stepped, open_step, alpha_step, eta_step}
use Rattle.shared.specs.Meanings.{three, sizes}
use Rattle.report.specs.Stages.{after_sums}
use Rattle.outcome_text.proofs.conversation.after_sums.Goals as goal

pub overflow_cast-due : goal.overflow_cast-due
unfolding lengths
overflow_cast-due c =
    omega (arith, c.requires, ap (λ (l : MessageLengths). l.witness) c.message_lengths-due.ensures)

pub overflow_cast-due-2 : goal.overflow_cast-due-2
unfolding lengths
overflow_cast-due-2 c =
    omega (arith, c.requires, ap (λ (l : MessageLengths). l.mask) c.message_lengths-due.ensures)

pub overflow_cast-due-3 : goal.overflow_cast-due-3
unfolding lengths
overflow_cast-due-3 c =
    omega (arith, c.well_formed, ap (λ (l : MessageLengths). l.row_quotient) c.message_lengths-due.ensures)

pub returns : goal.returns
unfolding after_sums
returns c =
    let a = c.args in
    let table = c.message_lengths-due.ensures in
    let next : Stepped → Session = λ s. s.session in
    let opened = ap next (c.«open».ensures ∙ ap (λ s. open_step baby_bear s (sizes a.s) a.x.now) c.new.ensures) in
    let first =
    ap next
    (c.alpha.ensures
    ∙ (λ t. alpha_step baby_bear (opened t) (table t).witness (table t).mask (table t).row_quotient a.alpha)) in
    ap next (c.eta.ensures ∙ ap (λ s. eta_step baby_bear s (three a.sums) (three a.eta)) first)
