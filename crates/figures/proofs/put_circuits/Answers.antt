-- `figures::put_circuits` meets its contract. Assumes nothing.
use Rattle.std.proofs.Common.{◌≡◌, sym, ◌∙◌, arith, length, map}
use Rattle.std.proofs.lemmas.List.{length-map}
use borrow.Author.Tests.{eqb-true, eqb-false}
use Rattle.domain.specs.BabyBear.{baby_bear}
use Rattle.text.proofs.WrittenLaws.{written_as}
use Rattle.sheet_lines.specs.Meanings.{given}
use Rattle.figures.proofs.SheetLaws.{table_empty, table-rows}
use Rattle.figures.proofs.put_circuits.Goals as goal

pub returns-then-is_empty : goal.returns-then-is_empty
returns-then-is_empty c =
    let l = c.args.requests.now in
    let empty : length (map given l) ≡ 0 = length-map l given ∙ eqb-true (length l) 0 (sym c.if-is_empty.ensures) in
    written_as (table_empty baby_bear (map given l) empty) c.put_bytes.ensures

pub returns : goal.returns
returns c =
    let l = c.args.requests.now in
    let some : length l ≡ 0 → ⊥ = eqb-false (length l) 0 (sym c.if-is_empty.ensures) in
    written_as (table-rows baby_bear (map given l) (omega (arith, length-map l given)) (omega (arith, length-map l given)))
    c.put_table.ensures
