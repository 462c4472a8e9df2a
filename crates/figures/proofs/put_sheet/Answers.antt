-- `figures::put_sheet` meets its contract. Assumes nothing.
use Rattle.std.proofs.Common.{ap, ◌∙◌, arith}
use Rattle.domain.specs.BabyBear.{baby_bear}
use Rattle.text.proofs.WrittenLaws.{written_as}
use Rattle.figures.specs.Sheet.{table_text}
use Rattle.figures.proofs.SheetLaws.{sheet_long, sheet_wrong, sheet_table, table-full}
use Rattle.figures.proofs.put_sheet.Goals as goal

pub returns-then-input-gt-LONGEST_TEXT : goal.returns-then-input-gt-LONGEST_TEXT
returns-then-input-gt-LONGEST_TEXT c = written_as (sheet_long baby_bear c.args.input.now (omega arith)) c.put_bytes.ensures

pub returns-in-Some : goal.returns-in-Some
returns-in-Some c = written_as (sheet_wrong baby_bear c.args.input.now (omega arith) _ c.in-Some.ensures) c.put_wrong.ensures

pub returns-in-Some-collect_all : goal.returns-in-Some-collect_all
returns-in-Some-collect_all c =
    written_as (ap (table_text baby_bear) c.in-Some-collect_all.ensures.front
    ∙ sheet_table baby_bear c.args.input.now (omega arith) c.in_default.ensures)
    c.put_circuits.ensures

pub returns-in-None : goal.returns-in-None
returns-in-None c =
    written_as (table-full baby_bear _ c.in-None.ensures ∙ sheet_table baby_bear c.args.input.now (omega arith) c.in_default.ensures)
    c.put_bytes-in-None.ensures
