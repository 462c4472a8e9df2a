-- `shared::scans::first_failed` meets its contract: the tests before i passed. Assumes nothing.
use Rattle.std.proofs.Common.{arith, sym, refl, false}
use Rattle.protocol.proofs.Rows.{passed_none, passed_turn, passed_stop, passed_end}
use Rattle.shared.specs.Meanings.{row_number}
use Rattle.shared.proofs.scans.first_failed.Goals as goal

pub loop-i-init : goal.loop-i-init
loop-i-init c = passed_none _ _ _

pub returns-then-not-passes : goal.returns-then-not-passes
returns-then-not-passes c =
    let a = c.args in
    passed_stop (row_number a.row) a.position a.tests.now c.loop-i.i c.loop-i.invariant (omega arith) false _ refl c.if-not-passes.true

pub loop-i-preserved : goal.loop-i-preserved
loop-i-preserved c =
    let a = c.args in
    passed_turn (row_number a.row) a.position a.tests.now c.loop-i.i c.loop-i.invariant (omega arith) false c.if-not-passes.false

pub returns : goal.returns
returns c =
    let a = c.args in
    sym (passed_end (row_number a.row) a.position a.tests.now c.loop-i.i c.loop-i.invariant (omega arith))
