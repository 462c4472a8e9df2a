-- What the loop of `poly::evaluate_part` keeps. Assumes nothing.
use Rattle.std.proofs.Common.{◌≡◌, List, map, ℕ, ◌<◌, take}
use Rattle.algebra.specs.Polynomial.{Running, running, map_running}
use Rattle.field.specs.Prime.{Prime}
use Rattle.field.specs.Element.{Elem, of, word_of}
use Rattle.domain.specs.Polynomial.{eval_part}
use Rattle.poly.proofs.evaluate_part.Given as goal

-- after the first i coefficients, in elements
abbrev pub after : (q : Prime) → Running ℕ → ℕ → List ℕ → ℕ → Running (Elem q)
after q r x part i = eval_part (map_running of r) (of x) (map of (take i part))

abbrev pub invariant-loop-coefficient : goal.invariant-loop-coefficient
invariant-loop-coefficient l =
    (q : Prime) → q.p ≡ l.p → (l.initial.sum < l.p) × (l.initial.power < l.p)
    → running l.sum l.power ≡ map_running word_of (after q (running l.initial.sum l.initial.power) l.x l.part l.coefficient-index)
