-- What the loop of `circuit::checks::check_points` keeps. Assumes nothing.
use mathlib.Core.Path.{◌≡◌}
use mathlib.Core.Bool.{Bool, not}
use mathlib.Core.List.{List, [], ◌∷◌, map}
use Prim.Native.Nat.{ℕ}
use Rattle.field.specs.Prime.{Prime}
use Rattle.field.specs.Element.{Elem, of}
use Rattle.domain.specs.Domain.{inside}
use Rattle.domain.specs.Qualifies.{Qualifies}
use Rattle.protocol.specs.Refusals.{pairs}
use Rattle.protocol.proofs.Rows.{Passed}
use Rattle.circuit.proofs.checks.check_points.Given as goal

abbrev pub tests : (q : Prime) (ns points : List ℕ) → List Bool
tests q ns points = pairs (λ (n : ℕ) (y : Elem q). not (inside n y)) ns (map of points)

abbrev pub invariant-loop-i : goal.invariant-loop-i
invariant-loop-i l = ((q : Prime) → Qualifies q → q.p ≡ l.p → Passed 10 0 (tests q (l.r ∷ l.c ∷ l.k ∷ []) l.points) l.i)
