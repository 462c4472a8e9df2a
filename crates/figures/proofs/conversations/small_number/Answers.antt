-- `figures::conversations::small_number` meets its contract. Assumes nothing.
use mathlib.Core.Path.{◌≡◌, sym, ap, ◌∙◌}
use Prim.Native.Nat.{◌+◌, ◌-◌}
use native.Mathlib.Omega.{arith}
use lib.ListN.{get_or}
use Rattle.domain.specs.BabyBear.{baby_bear}
use Rattle.sheet_lines.specs.Meanings.{given}
use Rattle.figures.specs.Figures.{Figure, mask_figures}
use Rattle.figures.specs.Placed.{tuple_rows, mask_rows, conversation_at}
use Rattle.figures.proofs.TableLaws.{mask-row, repeat_row, number_of}
use borrow.Author.Rules.{rules}
use Rattle.figures.proofs.conversations.small_number.Goals as goal

pub returns-then-row-lt-MASKS : goal.returns-then-row-lt-MASKS
returns-then-row-lt-MASKS c =
    let a = c.args in
    let g = given a.request in
    ap (λ l. get_or l a.row 0) c.mask_numbers-numbers.ensures ∙ number_of mask_figures g a.row
    ∙ ap (λ (f : Figure). f.number g) (sym (mask-row baby_bear a.row (search rules)))

pub returns : goal.returns
returns c =
    let a = c.args in
    let g = given a.request in
    let i = a.row - mask_rows in
    let same : tuple_rows + mask_rows + i ≡ tuple_rows + a.row = omega arith in
    c.repeats.ensures
    ∙ ap (λ (f : Figure). f.number g) (sym (repeat_row baby_bear i) ∙ ap (conversation_at baby_bear) same)
