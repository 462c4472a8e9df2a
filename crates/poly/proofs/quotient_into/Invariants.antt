-- What the loop of `poly::quotient_into` keeps. Assumes nothing.
use Rattle.std.proofs.Common.{◌≡◌, map}
use Rattle.field.specs.Prime.{Prime}
use Rattle.field.specs.Element.{of, words}
use Rattle.domain.specs.Polynomial.{quotient}
use Rattle.poly.proofs.Stores.{joined}
use Rattle.poly.proofs.quotient_into.Given as goal

abbrev pub invariant-loop-i : goal.invariant-loop-i
invariant-loop-i l =
    (q : Prime) → q.p ≡ l.p → l.out ≡ joined l.initial.out (words (quotient l.n (map (of {q = q}) l.f))) l.i
