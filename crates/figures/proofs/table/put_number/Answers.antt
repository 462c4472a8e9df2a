-- `figures::table::put_number` meets its contract. Assumes nothing.
use mathlib.Core.Path.{◌≡◌, sym, ap, ◌∙◌}
use Prim.Native.Nat.{◌+◌, ◌-◌}
use native.Mathlib.Omega.{arith}
use lib.ListN.{length}
use Rattle.domain.specs.BabyBear.{baby_bear}
use Rattle.text.specs.Decimal.{decimal}
use Rattle.text.proofs.WrittenLaws.{written_as}
use Rattle.sheet_lines.specs.Meanings.{given}
use Rattle.figures.specs.Figures.{Figure}
use Rattle.figures.specs.Placed.{number_rows, triple_rows, figure_at, number_room}
use Rattle.figures.proofs.TableLaws.{within-room, within_as, conversation-row, few-digits, powers-lines, power-short, power-row}
use borrow.Author.Rules.{rules}
use Rattle.figures.proofs.table.put_number.Goals as goal

pub put_decimal-requires : goal.put_decimal-requires
put_decimal-requires c =
    omega (arith, c.requires.number_room_in_bounds, few-digits c.number.result (omega (arith, c.number.type_inv)))

pub returns-then-row-lt-NUMBERS : goal.returns-then-row-lt-NUMBERS
returns-then-row-lt-NUMBERS c =
    let short = few-digits c.number.result (omega (arith, c.number.type_inv)) in
    within-room number_room (omega (arith, ap (λ n. length (decimal n)) c.number.ensures))
    (written_as (ap decimal c.number.ensures) c.put_decimal.ensures)

pub put_line-requires : goal.put_line-requires
put_line-requires c =
    record {
      n_in_bounds = omega (arith, ap length powers-lines);
      n_in_bounds_2 = omega (arith, c.requires.number_room_in_bounds, power-short (c.args.row - number_rows));
    }

pub returns-then-after-lt-TRIPLES : goal.returns-then-after-lt-TRIPLES
returns-then-after-lt-TRIPLES c =
    let row = c.args.row in
    let same : number_rows + (row - number_rows) ≡ row = omega arith in
    let g = given c.args.request in
    let line = power-row (row - number_rows) g (search rules) ∙ ap (λ i. decimal ((figure_at baby_bear i).number g)) same in
    within-room number_room (omega (arith, ap length line, power-short (row - number_rows))) (written_as line c.put_line.ensures)

pub returns : goal.returns
returns c =
    let row = c.args.row in
    let same : number_rows + triple_rows + (row - number_rows - triple_rows) ≡ row = omega arith in
    let figure = sym (conversation-row baby_bear (row - number_rows - triple_rows)) ∙ ap (figure_at baby_bear) same in
    let g = given c.args.request in
    within_as (ap (λ (f : Figure). decimal (f.number g)) figure) c.put_conversations.ensures
