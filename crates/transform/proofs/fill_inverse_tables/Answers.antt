-- `transform::fill_inverse_tables` meets its contract. Assumes nothing.
use mathlib.Core.Path.{refl}
use native.Mathlib.Omega.{arith}
use lib.ListN.{length}
use Rattle.domain.proofs.SizeLaws.{size_positive, size_bound}
use Rattle.transform.proofs.TableLaws.{last_power, tables_same}
use Rattle.transform.proofs.fill_inverse_tables.Goals as goal

pub overflow_cast-n : goal.overflow_cast-n
overflow_cast-n c =
    omega (arith, size_bound (length c.args.powers.now) c.requires.quotients_len.1)

pub overflow_sub-n : goal.overflow_sub-n
overflow_sub-n c = size_positive _ c.requires.quotients_len.1

pub returns : goal.returns
returns c q e root-word k size =
    let a = c.args in
    let last = c.raise-last in
    tables_same q k (last_power (length a.powers.now) a.g last.result root-word (last.ensures q e))
    refl refl (c.fill_tables.ensures q e k size)
