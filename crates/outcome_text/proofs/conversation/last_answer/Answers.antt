-- `outcome_text::conversation::last_answer` meets its contract. Assumes nothing.
use mathlib.Core.Path.{ap, ◌∙◌}
use Rattle.protocol.specs.Messages.{MessageLengths, lengths}
use Rattle.shared.specs.Meanings.{three, sizes, openings}
use Rattle.report.specs.Stages.{after_values, answer_after}
use Rattle.outcome_text.proofs.conversation.last_answer.Goals as goal

pub returns : goal.returns
returns c =
    let a = c.args in
    let d = a.drawn in
    let l : MessageLengths = lengths (sizes a.s) in
    let summed = c.after_sums-summed.ensures in
    let valued = c.after_values-valued.ensures ∙ ap (λ s. after_values s l d.beta (three a.values) (three d.delta)) summed in
    c.answer_after.ensures ∙ ap (λ s. answer_after s l d.gamma (openings a.o a.index)) valued
