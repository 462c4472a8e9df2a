-- `sheet_lines::numbers::read` meets its contract. Assumes nothing.
use Rattle.std.proofs.Common.{sym, ap, ◌∙◌, arith}
use borrow.Author.Tests.{eq-eqb, ne_eqb}
use Rattle.algebra.proofs.Choice.{pick_true, pick-false}
use Rattle.sheet_lines.proofs.ScanLaws.{outcome, scan_finds}
use Rattle.sheet_lines.proofs.numbers.read.Goals as goal

pub returns-in_default : goal.returns-in_default
returns-in_default c = sym (scan_finds c.args.line.now ∙ ap outcome (sym c.in_default.ensures))

pub returns-in-0 : goal.returns-in-0
returns-in-0 c =
    sym (scan_finds c.args.line.now ∙ ap outcome (sym c.in-Some.ensures) ∙ pick_true _ _ (eq-eqb _ _ c.in-0.is))

pub returns-in-6 : goal.returns-in-6
returns-in-6 c =
    sym
    (scan_finds c.args.line.now ∙ ap outcome (sym c.in-Some.ensures) ∙ pick-false _ _ (ne_eqb _ _ (λ none. omega (arith, c.in-6.is)))
    ∙ pick_true _ _ (eq-eqb _ _ c.in-6.is))

pub returns-in_default-count : goal.returns-in_default-count
returns-in_default-count c =
    sym
    (scan_finds c.args.line.now ∙ ap outcome (sym c.in-Some.ensures) ∙ pick-false _ _ (ne_eqb _ _ (λ none. omega arith))
    ∙ pick-false _ _ (ne_eqb _ _ (λ six. omega arith)))
