-- `report::matrix_rounds::put_fifth` meets its contract. Assumes nothing.
use Rattle.std.proofs.Common.{sym, ap, ◌∙◌, arith}
use Rattle.protocol.specs.Messages.{MessageLengths}
use Rattle.shared.specs.Meanings.{three}
use Rattle.poly.proofs.LentParts.{lent_length}
use Rattle.report.specs.Stages.{section, fifth_text}
use Rattle.report.proofs.PrintedLaws.{printed_within, printed_as}
use Rattle.report.proofs.Bounds.{roomy}
use Rattle.report.proofs.RoundResults.{fifth-done}
use Rattle.report.proofs.matrix_rounds.put_fifth.Goals as goal

pub slice_bounds-words-end : goal.slice_bounds-words-end
slice_bounds-words-end c = (roomy _ c.requires.free c.lengths_of-due.ensures).joined_quotient_most

pub slice_bounds-quotient-end : goal.slice_bounds-quotient-end
slice_bounds-quotient-end c = lent_length 1024 (roomy _ c.requires.free c.lengths_of-due.ensures).joined_quotient_most

pub returns : goal.returns
unfolding fifth_text
returns c =
    let a = c.args in
    let h = (roomy _ c.requires.free c.lengths_of-due.ensures).joined_quotient_most in
    let lent = sym (lent_length 1024 h) ∙ ap (λ (l : MessageLengths). l.joined_quotient) c.lengths_of-due.ensures in
    let done = fifth-done _ a.alpha (three a.eta) a.beta (three a.delta) _ c.requires.free lent c.fifth_round.ensures in
    printed_within (printed_as (ap (section 10) done) c.put_line.ensures)
    (omega (arith, h, lent_length 1024 h, c.fifth_round.auto.out))
