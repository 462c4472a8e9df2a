-- What the loop of `domain::interpolated_at` keeps: the sum is that of the terms so far. Assumes nothing.
use Rattle.std.proofs.Common.{◌≡◌, ℕ, map, length}
use Rattle.algebra.specs.Lists.{tabulate}
use Rattle.algebra.specs.Sum as sums
use Rattle.field.specs.Prime.{Prime}
use Rattle.field.specs.Element.{Elem, of, words}
use Rattle.field.proofs.ElementLaws.{prime_ring}
use Rattle.domain.specs.Domain.{element, lagrange}
use Rattle.domain.proofs.LagrangeSums.{term}
use Rattle.domain.proofs.interpolated_at.Given as goal

abbrev pub invariant-loop-value : goal.invariant-loop-value
invariant-loop-value l =
    (q : Prime) → q.p ≡ l.p → (n : ℕ) (y : Elem q) → l.weights ≡ words (tabulate n (λ i. lagrange n (element n i) y))
    → l.sum ≡ (sums.sum (prime_ring q) (length l.yielded) (term n (map of l.values) y)).word
