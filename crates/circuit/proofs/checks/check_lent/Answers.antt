-- `circuit::checks::check_lent` meets its contract. Assumes nothing.
use mathlib.Core.Path.{◌≡◌, sym, ◌∙◌}
use mathlib.Core.Bool.{Bool, true}
use mathlib.Core.List.{List}
use native.Mathlib.Omega.{arith}
use lib.Dec.{eqb}
use lib.ListN.{length}
use borrow.Author.Tests.{eq-eqb, ne_eqb}
use Rattle.protocol.specs.Refusals.{pairs}
use Rattle.protocol.proofs.Rows.{passed_none, passed_turn, passed_stop, passed_end, length_pairs, pairs-at}
use Rattle.circuit.proofs.checks.check_lent.Goals as goal
use Rattle.circuit.proofs.checks.check_lent.Goals.{Start}

-- the tests, and how many they are
abbrev tests : Start → List Bool
tests s = pairs eqb s.args.lent.now s.args.due.now

tests_count : (s : Start) → length (tests s) ≡ length s.args.lent.now
tests_count s = omega (arith, length_pairs eqb s.args.lent.now s.args.due.now, s.requires.due_len)

pub loop-i-init : goal.loop-i-init
loop-i-init c = passed_none 5 _ _

pub returns-then-length-due : goal.returns-then-length-due
returns-then-length-due c =
    let s = (goal.at.returns-then-length-due c).Start in
    passed_stop 5 s.args.start (tests s) c.loop-i.i c.loop-i.invariant (omega (arith, tests_count s)) true _ (omega arith)
    (pairs-at eqb s.args.lent.now s.args.due.now c.loop-i.i 0 0 true (omega arith) (omega (arith, s.requires.due_len))
    ∙ ne_eqb _ _ c.if-length-due.true)

pub loop-i-preserved : goal.loop-i-preserved
loop-i-preserved c =
    let s = (goal.at.loop-i-preserved c).Start in
    passed_turn 5 s.args.start (tests s) c.loop-i.i c.loop-i.invariant (omega (arith, tests_count s)) true
    (pairs-at eqb s.args.lent.now s.args.due.now c.loop-i.i 0 0 true (omega arith) (omega (arith, s.requires.due_len))
    ∙ eq-eqb _ _ c.if-length-due.false)

pub returns : goal.returns
returns c =
    let s = (goal.at.returns c).Start in
    sym (passed_end 5 s.args.start (tests s) c.loop-i.i c.loop-i.invariant (omega (arith, tests_count s)))
