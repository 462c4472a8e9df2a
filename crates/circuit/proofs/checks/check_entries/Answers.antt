-- `circuit::checks::check_entries` meets its contract: the entries passed fit and rise. Assumes nothing.
use mathlib.Core.Path.{◌≡◌, refl, sym, ◌∙◌}
use mathlib.Core.Bool.{true}
use mathlib.Core.List.{List}
use Prim.Native.Nat.{ℕ, ◌/◌}
use native.Mathlib.Omega.{arith}
use lib.ListN.{length}
use Rattle.protocol.specs.Circuit.{Circuit}
use Rattle.protocol.specs.Calls.{entries_of}
use Rattle.protocol.proofs.EntryLists.{length-entries_of}
use Rattle.protocol.proofs.Rows.{passed_none, passed_turn, passed_stop, passed_end}
use Rattle.circuit.proofs.Entries.{length-entry_tests}
use Rattle.circuit.proofs.checks.check_entries.Invariants.{tests}
use Rattle.circuit.proofs.checks.check_entries.Goals as goal

tests_count : (k : Circuit) (entries : List ℕ) → length (tests k entries) ≡ length entries / 3
tests_count k entries = omega (arith, length-entry_tests k (entries_of entries), length-entries_of entries)

pub loop-i-init : goal.loop-i-init
loop-i-init c = λ k er ec. passed_none 7 _ _

pub entry_passes-requires : goal.entry_passes-requires
entry_passes-requires c = omega (arith, length-entries_of c.args.entries.now)

pub returns-then-not-entry_passes : goal.returns-then-not-entry_passes
returns-then-not-entry_passes c k er ec =
    let l = c.loop-i in
    let a = c.args in
    passed_stop 7 a.start (tests k a.entries.now) l.i (l.invariant k er ec) (omega (arith, tests_count k a.entries.now)) true _ refl
    (sym (c.entry_passes.ensures k er ec) ∙ c.if-not-entry_passes.true)

pub loop-i-preserved : goal.loop-i-preserved
loop-i-preserved c =
    let l = c.loop-i in
    let a = c.args in
    λ k er ec.
    passed_turn 7 a.start (tests k a.entries.now) l.i (l.invariant k er ec) (omega (arith, tests_count k a.entries.now)) true
    (sym (c.entry_passes.ensures k er ec) ∙ c.if-not-entry_passes.false)

pub returns : goal.returns
returns c k er ec =
    let l = c.loop-i in
    let a = c.args in
    sym (passed_end 7 a.start (tests k a.entries.now) l.i (l.invariant k er ec) (omega (arith, tests_count k a.entries.now)))
