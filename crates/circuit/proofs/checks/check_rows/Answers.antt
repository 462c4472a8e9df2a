-- `circuit::checks::check_rows` meets its contract: the rows passed are satisfied. Assumes nothing.
use mathlib.Core.Path.{sym, ◌∙◌}
use mathlib.Core.Bool.{true}
use native.Mathlib.Omega.{arith}
use borrow.Author.Tests.{eq-eqb, ne_eqb}
use Rattle.protocol.proofs.Rows.{passed_none, passed_turn, passed_stop, passed_end}
use Rattle.circuit.proofs.Sums.{rows-count, row_test_lem}
use Rattle.circuit.proofs.checks.check_rows.Invariants.{tests}
use Rattle.circuit.proofs.checks.check_rows.Goals as goal

pub loop-i-init : goal.loop-i-init
loop-i-init c = λ q e n s t u el er ep. passed_none 9 0 _

pub returns-then-multiply-product : goal.returns-then-multiply-product
returns-then-multiply-product c q e n s t u el er ep =
    let l = c.loop-i in
    let a = c.args in
    let call = c.multiply in
    passed_stop 9 0 (tests q n s t u) l.i (l.invariant q e n s t u el er ep)
    (omega (arith, rows-count n s t u a.left.now a.right.now a.product.now el er ep)) true l.i (omega arith)
    (row_test_lem n s t u a.left.now a.right.now a.product.now el er ep l.i call.result (omega arith) (call.ensures q e)
    ∙ ne_eqb _ _ c.if-multiply-product.true)

pub loop-i-preserved : goal.loop-i-preserved
loop-i-preserved c =
    let l = c.loop-i in
    let a = c.args in
    let call = c.multiply in
    λ q e n s t u el er ep.
    passed_turn 9 0 (tests q n s t u) l.i (l.invariant q e n s t u el er ep)
    (omega (arith, rows-count n s t u a.left.now a.right.now a.product.now el er ep)) true
    (row_test_lem n s t u a.left.now a.right.now a.product.now el er ep l.i call.result (omega arith) (call.ensures q e)
    ∙ eq-eqb _ _ c.if-multiply-product.false)

pub returns : goal.returns
returns c q e n s t u el er ep =
    let l = c.loop-i in
    let a = c.args in
    sym
    (passed_end 9 0 (tests q n s t u) l.i (l.invariant q e n s t u el er ep)
    (omega (arith, rows-count n s t u a.left.now a.right.now a.product.now el er ep)))
