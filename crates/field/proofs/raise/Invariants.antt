-- What the loop of `field::raise` keeps. Assumes nothing.
use Rattle.std.proofs.Common.{◌≡◌, ◌<◌}
use Rattle.algebra.specs.Ring.{pow}
use Rattle.field.specs.Prime.{Prime}
use Rattle.field.specs.Element.{of, ◌⊗◌}
use Rattle.field.proofs.ElementLaws.{prime_ring}
use Rattle.field.proofs.raise.Given as goal

abbrev pub invariant-loop-rest : goal.invariant-loop-rest
invariant-loop-rest l =
    (q : Prime) → q.p ≡ l.p → (of {q = q} l.result ⊗ pow (prime_ring q) (of l.base) l.rest ≡ pow (prime_ring q) (of l.a) l.n) × (l.result < q.p)

abbrev pub decreases-loop-rest : goal.decreases-loop-rest
decreases-loop-rest l = l.rest
