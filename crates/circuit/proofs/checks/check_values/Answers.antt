-- `circuit::checks::check_values` meets its contract: the values passed are below p. Assumes nothing.
use mathlib.Core.Path.{refl, sym, ◌∙◌}
use mathlib.Core.Bool.{true}
use native.Mathlib.Omega.{arith}
use borrow.Author.Tests.{lt-ltb, le-ltb}
use Rattle.protocol.proofs.Rows.{passed_none, passed_turn, passed_stop, passed_end}
use Rattle.circuit.proofs.Entries.{values-count, value_test}
use Rattle.circuit.proofs.checks.check_values.Invariants.{tests}
use Rattle.circuit.proofs.checks.check_values.Goals as goal

pub loop-i-init : goal.loop-i-init
loop-i-init c = passed_none 6 _ _

pub returns-then-entries-i : goal.returns-then-entries-i
returns-then-entries-i c =
    let l = c.loop-i in
    let a = c.args in
    passed_stop 6 a.start (tests a.p a.entries.now) l.i l.invariant (omega (arith, values-count a.p a.entries.now)) true _ refl
    (value_test a.p a.entries.now l.i (omega arith) ∙ le-ltb _ _ c.if-entries-i.true)

pub loop-i-preserved : goal.loop-i-preserved
loop-i-preserved c =
    let l = c.loop-i in
    let a = c.args in
    passed_turn 6 a.start (tests a.p a.entries.now) l.i l.invariant (omega (arith, values-count a.p a.entries.now)) true
    (value_test a.p a.entries.now l.i (omega arith) ∙ lt-ltb _ _ c.if-entries-i.false)

pub returns : goal.returns
returns c =
    let l = c.loop-i in
    let a = c.args in
    sym (passed_end 6 a.start (tests a.p a.entries.now) l.i l.invariant (omega (arith, values-count a.p a.entries.now)))
