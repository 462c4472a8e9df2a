-- `sheet_lines::numbers::step` meets its contract. Assumes nothing.
use Rattle.std.proofs.Common.{sym, ap, ◌∙◌}
use Rattle.std.specs.Prelude.{Some}
use Rattle.algebra.proofs.Choice.{pick_true, pick-false}
use Rattle.sheet_lines.specs.Scanning.{stepped}
use Rattle.sheet_lines.proofs.numbers.step.Goals as goal

pub returns-then-is_digit : goal.returns-then-is_digit
unfolding stepped
returns-then-is_digit c = simp c.extend.ensures (sym (pick_true _ _ (sym c.is_digit.ensures ∙ c.if-is_digit.true)))

pub returns-then-is_blank : goal.returns-then-is_blank
unfolding stepped
returns-then-is_blank c =
    ap Some c.end_number.ensures
    ∙ sym
    (pick-false _ _ (sym c.is_digit.ensures ∙ c.if-is_digit.false)
    ∙ pick_true _ _ (sym c.is_blank.ensures ∙ c.if-is_blank.true))

pub returns-else-is_blank : goal.returns-else-is_blank
unfolding stepped
returns-else-is_blank c =
    sym
    (pick-false _ _ (sym c.is_digit.ensures ∙ c.if-is_digit.false)
    ∙ pick-false _ _ (sym c.is_blank.ensures ∙ c.if-is_blank.false))
