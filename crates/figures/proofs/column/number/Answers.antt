-- `figures::column::number` meets its contract. Assumes nothing.
use mathlib.Core.Path.{◌≡◌, sym, ap, ◌∙◌}
use Prim.Native.Nat.{◌+◌, ◌-◌}
use native.Mathlib.Omega.{arith}
use lib.ListN.{get_or}
use Rattle.domain.specs.BabyBear.{baby_bear}
use Rattle.sheet_lines.specs.Meanings.{given}
use Rattle.figures.specs.Figures.{Figure, size_figures, length_figures, check_figures}
use Rattle.figures.specs.Placed.{figure_at}
use Rattle.figures.proofs.TableLaws.{size_row, length-row, check_row, number_of}
use borrow.Author.Rules.{rules}
use Rattle.figures.proofs.column.number.Goals as goal

pub returns-then-row-lt-SIZES : goal.returns-then-row-lt-SIZES
returns-then-row-lt-SIZES c =
    let a = c.args in
    let g = given a.g in
    ap (λ l. get_or l a.row 0) c.size_numbers-numbers.ensures ∙ number_of size_figures g a.row
    ∙ ap (λ (f : Figure). f.number g) (sym (size_row baby_bear a.row (search rules)))

pub returns-then-after-lt-LENGTHS : goal.returns-then-after-lt-LENGTHS
returns-then-after-lt-LENGTHS c =
    let a = c.args in
    let g = given a.g in
    let i = a.row - 10 in
    let same : 10 + i ≡ a.row = omega arith in
    ap (λ l. get_or l i 0) c.length_numbers-numbers.ensures ∙ number_of length_figures g i
    ∙ ap (λ (f : Figure). f.number g) (sym (length-row baby_bear i (search rules)) ∙ ap (figure_at baby_bear) same)

pub returns : goal.returns
returns c =
    let a = c.args in
    let g = given a.g in
    let i = a.row - 10 - 12 in
    let same : 22 + i ≡ a.row = omega arith in
    ap (λ l. get_or l i 0) c.check_numbers-numbers.ensures ∙ number_of (check_figures baby_bear) g i
    ∙ ap (λ (f : Figure). f.number g) (sym (check_row baby_bear i (search rules)) ∙ ap (figure_at baby_bear) same)
