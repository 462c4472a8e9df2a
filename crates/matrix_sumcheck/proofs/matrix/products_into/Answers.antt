-- `matrix_sumcheck::matrix::products_into` meets its contract: the first i words are the products. Assumes nothing.
use Rattle.std.proofs.Common.{arith, length}
use Rattle.domain.proofs.Fill.{fill_none, rule_turn, rule_end}
use Rattle.domain.proofs.SizeLaws.{size_fits}
use Rattle.matrix_sumcheck.proofs.matrix.products_into.Invariants.{rule}
use Rattle.matrix_sumcheck.proofs.matrix.products_into.Goals as goal

pub loop-i-init : goal.loop-i-init
loop-i-init c q e = fill_none _ _

pub product_at-requires : goal.product_at-requires
product_at-requires c =
    record {
      p_nonzero = omega arith;
      entries_within = c.requires.entries_within;
      i_lt_max_size = omega (arith, size_fits _ c.requires.out_len);
    }

pub loop-i-preserved : goal.loop-i-preserved
loop-i-preserved c q e =
    let l = c.loop-i in
    let a = c.args in
    rule_turn (length a.out.now) (rule q a.factors.now.rows.now a.factors.now.columns.now a.entries.now) l.out l.i
    c.product_at.result l.auto.out (omega arith) (l.invariant q e) (c.product_at.ensures q e)

pub returns : goal.returns
returns c q e =
    let l = c.loop-i in
    let a = c.args in
    rule_end (length a.out.now) (rule q a.factors.now.rows.now a.factors.now.columns.now a.entries.now) l.out l.i l.auto.out (omega arith)
    (l.invariant q e)
