-- What the loop of `transform::product::twist_into` keeps. Assumes nothing.
use Rattle.std.proofs.Common.{◌≡◌, map}
use Rattle.algebra.specs.Ring.{pow}
use Rattle.algebra.specs.Polynomial.{twist}
use Rattle.field.specs.Prime.{Prime}
use Rattle.field.specs.Element.{of, words}
use Rattle.field.proofs.ElementLaws.{prime_ring}
use Rattle.domain.proofs.Fill.{Filled}
use Rattle.transform.proofs.product.twist_into.Given as goal

abbrev pub invariant-loop-i : goal.invariant-loop-i
invariant-loop-i l =
    (q : Prime) → q.p ≡ l.p
    → (l.power ≡ (pow (prime_ring q) (of l.s) l.i).word) × Filled (words (twist (prime_ring q) (of l.s) (map of l.f))) l.out l.i
