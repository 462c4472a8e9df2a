-- What the loop of `poly::folded` keeps: the sum so far, and what the rest of f adds, make up what f as a whole gives. Assumes nothing.
use Rattle.std.proofs.Common.{◌≡◌, ◌<◌, get_or, map}
use Rattle.field.specs.Prime.{Prime}
use Rattle.field.specs.Element.{of, 𝟘, ◌⊕◌}
use Rattle.domain.specs.Polynomial.{remainder}
use Rattle.poly.proofs.folded.Given as goal

abbrev pub invariant-loop-part : goal.invariant-loop-part
invariant-loop-part l =
    (l.part-iterator.size ≡ l.n)
    × ((q : Prime) → q.p ≡ l.p
    → (of {q = q} l.sum ⊕ get_or (remainder l.n (map of l.part-iterator.rest.now)) l.at 𝟘 ≡ get_or (remainder l.n (map of l.f)) l.at 𝟘)
    × (l.sum < q.p))
