-- `transform::fill_tables` meets its contract. Assumes nothing.
use mathlib.Core.Path.{sym}
use Rattle.field.specs.Element.{of}
use Rattle.transform.proofs.TableLaws.{table-levels, prepared_by_value}
use Rattle.transform.proofs.fill_tables.Goals as goal

pub returns : goal.returns
returns c q e k size =
    let a = c.args in
    let first = c.fill_powers in
    let folds = c.fold_levels in
    let quotients = c.prepare_all in
    record {
      levels =
          table-levels (of a.g) a.powers.now first.new.out folds.new.powers first.auto.out (first.ensures q e)
          folds.ensures k size;
      prepared = prepared_by_value folds.new.powers quotients.new.quotients (sym e) quotients.ensures;
    }
