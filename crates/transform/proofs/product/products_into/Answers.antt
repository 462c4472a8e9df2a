-- `transform::product::products_into` meets its contract: the entries below i are filled. Assumes nothing.
use Rattle.std.proofs.Common.{arith, length}
use Rattle.domain.proofs.Fill.{fill_none, rule_turn, rule_end}
use Rattle.transform.proofs.product.products_into.Invariants.{rule}
use Rattle.transform.proofs.product.products_into.Goals as goal

pub loop-i-init : goal.loop-i-init
loop-i-init c q e = fill_none _ _

pub loop-i-preserved : goal.loop-i-preserved
loop-i-preserved c q e =
    let a = c.args in
    let l = c.loop-i in
    rule_turn (length a.out.now) (rule q a.left.now a.right.now) l.out l.i c.multiply.result (omega arith)
    (omega arith) (l.invariant q e) (c.multiply.ensures q e)

pub returns : goal.returns
returns c q e =
    let a = c.args in
    let l = c.loop-i in
    rule_end (length a.out.now) (rule q a.left.now a.right.now) l.out l.i (omega arith) (omega arith) (l.invariant q e)
