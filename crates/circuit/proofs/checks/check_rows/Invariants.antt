-- What the loop of `circuit::checks::check_rows` keeps. Assumes nothing.
use mathlib.Core.Path.{◌≡◌}
use mathlib.Core.Bool.{Bool}
use mathlib.Core.List.{List}
use Prim.Native.Nat.{ℕ}
use Rattle.algebra.specs.Lists.{tabulate}
use Rattle.field.specs.Prime.{Prime}
use Rattle.field.specs.Element.{Elem, words, equal, ◌⊗◌}
use Rattle.protocol.proofs.Rows.{Passed}
use Rattle.circuit.proofs.checks.check_rows.Given as goal

abbrev pub tests : (q : Prime) → ℕ → (ℕ → Elem q) → (ℕ → Elem q) → (ℕ → Elem q) → List Bool
tests q n s t u = tabulate n (λ i. equal (s i ⊗ t i) (u i))

abbrev pub invariant-loop-i : goal.invariant-loop-i
invariant-loop-i l =
    ((q : Prime) → q.p ≡ l.p → (n : ℕ) (s t u : ℕ → Elem q) → l.left ≡ words (tabulate n s) → l.right ≡ words (tabulate n t)
    → l.product ≡ words (tabulate n u) → Passed 9 0 (tests q n s t u) l.i)
