-- What the loop of `shared::scans::judge_words` keeps. Assumes nothing.
use mathlib.Core.Bool.{Bool}
use mathlib.Core.List.{List, map}
use Prim.Native.Nat.{ℕ}
use lib.Dec.{ltb}
use Rattle.protocol.proofs.Rows.{Passed}
use Rattle.shared.proofs.scans.judge_words.Given as goal

abbrev pub tests : ℕ → List ℕ → List Bool
tests p words = map (λ w. ltb w p) words

abbrev pub invariant-loop-i : goal.invariant-loop-i
invariant-loop-i l = Passed 6 l.position (tests l.p l.words) l.i
