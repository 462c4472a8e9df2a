-- `figures::conversations::put_conversations` meets its contract. Assumes nothing.
use mathlib.Core.Path.{◌≡◌, sym, ap, ◌∙◌}
use Prim.Native.Nat.{◌+◌, ◌-◌}
use native.Mathlib.Omega.{arith}
use Rattle.domain.specs.BabyBear.{baby_bear}
use Rattle.text.specs.Decimal.{decimal}
use Rattle.sheet_lines.specs.Meanings.{given}
use Rattle.figures.specs.Figures.{Figure}
use Rattle.figures.specs.Placed.{tuple_rows, conversation_at, number_room}
use Rattle.figures.proofs.TableLaws.{within-room, within_as, tuple_row, few-digits}
use borrow.Author.Rules.{rules}
use Rattle.figures.proofs.conversations.put_conversations.Goals as goal

pub returns-then-row-lt-TUPLES : goal.returns-then-row-lt-TUPLES
returns-then-row-lt-TUPLES c =
    let g = given c.args.request in
    let figure = tuple_row baby_bear c.args.row (search rules) in
    within_as (ap (λ (f : Figure). decimal (f.number g)) (sym figure)) c.put_tuples.ensures

pub put_decimal-requires : goal.put_decimal-requires
put_decimal-requires c =
    let asked = c.small_number in
    omega (arith, c.requires.number_room_in_bounds, few-digits asked.result (omega (arith, asked.type_inv)))

pub returns : goal.returns
returns c =
    let row = c.args.row in
    let asked = c.small_number in
    let same : tuple_rows + (row - tuple_rows) ≡ row = omega arith in
    let number = asked.ensures ∙ ap (λ i. (conversation_at baby_bear i).number (given c.args.request)) same in
    within_as (ap decimal number)
    (within-room number_room (omega (arith, few-digits asked.result (omega (arith, asked.type_inv)))) c.put_decimal.ensures)
