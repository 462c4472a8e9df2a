-- What the loop of `poly::remainder_into` keeps. Assumes nothing.
use Rattle.std.proofs.Common.{◌≡◌, map}
use Rattle.field.specs.Prime.{Prime}
use Rattle.field.specs.Element.{of, words}
use Rattle.domain.specs.Polynomial.{remainder}
use Rattle.domain.proofs.Fill.{Filled}
use Rattle.poly.proofs.remainder_into.Given as goal

abbrev pub invariant-loop-i : goal.invariant-loop-i
invariant-loop-i l = (q : Prime) → q.p ≡ l.p → Filled (words (remainder l.n (map (of {q = q}) l.f))) l.out l.i
