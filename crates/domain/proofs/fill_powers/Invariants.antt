-- What the loop of `domain::fill_powers` keeps: the entries below the place are filled, and the power is that of the place. Assumes
-- nothing.
use Rattle.std.proofs.Common.{◌≡◌, length}
use Rattle.algebra.specs.Lists.{tabulate}
use Rattle.algebra.specs.Ring.{pow}
use Rattle.field.specs.Prime.{Prime}
use Rattle.field.specs.Element.{of, words}
use Rattle.field.proofs.ElementLaws.{prime_ring}
use Rattle.domain.proofs.Fill.{Filled}
use Rattle.domain.proofs.fill_powers.Given as goal

abbrev pub invariant-loop-place : goal.invariant-loop-place
invariant-loop-place l =
    (q : Prime) → q.p ≡ l.p → (l.power ≡ (pow (prime_ring q) (of l.g) l.place-index).word)
    × Filled (words (tabulate (length l.initial.out) (pow (prime_ring q) (of l.g)))) l.out l.place-index
