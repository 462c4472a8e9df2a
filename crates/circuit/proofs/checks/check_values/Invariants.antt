-- What the loop of `circuit::checks::check_values` keeps. Assumes nothing.
use mathlib.Core.Bool.{Bool}
use mathlib.Core.List.{List, map}
use Prim.Native.Nat.{ℕ}
use lib.Dec.{ltb}
use Rattle.protocol.specs.Circuit.{Entry}
use Rattle.protocol.specs.Calls.{entries_of}
use Rattle.protocol.proofs.Rows.{Passed}
use Rattle.circuit.proofs.checks.check_values.Given as goal

abbrev pub tests : ℕ → List ℕ → List Bool
tests p l = map (λ w. ltb w p) (map (λ (e : Entry). e.value) (entries_of l))

abbrev pub invariant-loop-i : goal.invariant-loop-i
invariant-loop-i l = Passed 6 l.start (tests l.p l.entries) l.i
