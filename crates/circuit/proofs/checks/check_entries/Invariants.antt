-- What the loop of `circuit::checks::check_entries` keeps. Assumes nothing.
use mathlib.Core.Path.{◌≡◌}
use mathlib.Core.Bool.{Bool}
use mathlib.Core.List.{List}
use Prim.Native.Nat.{ℕ}
use Rattle.protocol.specs.Circuit.{Circuit}
use Rattle.protocol.specs.Refusals.{entry_tests}
use Rattle.protocol.specs.Calls.{entries_of}
use Rattle.protocol.proofs.Rows.{Passed}
use Rattle.circuit.proofs.checks.check_entries.Given as goal

-- the tests, and how many they are
abbrev pub tests : Circuit → List ℕ → List Bool
tests k entries = entry_tests k (entries_of entries)

abbrev pub invariant-loop-i : goal.invariant-loop-i
invariant-loop-i l = ((k : Circuit) → k.|R| ≡ l.r → k.|C| ≡ l.c → Passed 7 l.start (tests k l.entries) l.i)
