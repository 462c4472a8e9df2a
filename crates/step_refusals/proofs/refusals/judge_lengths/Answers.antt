-- `step_refusals::refusals::judge_lengths` meets its contract: the lengths before i are within the table. Assumes nothing.
use Rattle.std.proofs.Common.{◌≡◌, sym, ◌∙◌, arith, Bool, true, List, length, leb}
use borrow.Author.Tests.{le-leb, lt-leb}
use Rattle.protocol.specs.Refusals.{pairs, length_refusal}
use Rattle.protocol.proofs.Rows.{passed_none, passed_turn, passed_stop, passed_end, length_pairs, pairs-at}
use Rattle.step_refusals.proofs.refusals.judge_lengths.Goals as goal
use Rattle.step_refusals.proofs.refusals.judge_lengths.Goals.{Start}

-- the tests, and how many they are
abbrev tests : Start → List Bool
tests s = pairs leb s.args.declared.now s.args.most.now

tests_count : (s : Start) → length (tests s) ≡ length s.args.declared.now
tests_count s = omega (arith, length_pairs leb s.args.declared.now s.args.most.now, s.requires)

pub loop-i-init : goal.loop-i-init
loop-i-init c = passed_none 11 0 _

pub returns-then-most-i : goal.returns-then-most-i
unfolding length_refusal
returns-then-most-i c =
    let s = (goal.at.returns-then-most-i c).Start in
    let a = c.args in
    passed_stop 11 0 (tests s) c.loop-i.i c.loop-i.invariant (omega (arith, tests_count s)) true c.loop-i.i (omega arith)
    (pairs-at leb a.declared.now a.most.now c.loop-i.i 0 0 true (omega arith) (omega (arith, c.requires)) ∙ lt-leb _ _ c.if-most-i.true)

pub loop-i-preserved : goal.loop-i-preserved
loop-i-preserved c =
    let s = (goal.at.loop-i-preserved c).Start in
    let a = c.args in
    passed_turn 11 0 (tests s) c.loop-i.i c.loop-i.invariant (omega (arith, tests_count s)) true
    (pairs-at leb a.declared.now a.most.now c.loop-i.i 0 0 true (omega arith) (omega (arith, c.requires)) ∙ le-leb _ _ c.if-most-i.false)

pub returns : goal.returns
unfolding length_refusal
returns c =
    let s = (goal.at.returns c).Start in
    sym (passed_end 11 0 (tests s) c.loop-i.i c.loop-i.invariant (omega (arith, tests_count s)))
