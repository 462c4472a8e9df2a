-- What the loop of `prover::witness::fill_vanishing` keeps. Assumes nothing.
use Rattle.std.proofs.Common.{◌≡◌, List, ℕ}
use Rattle.field.specs.Prime.{Prime}
use Rattle.field.specs.Element.{words}
use Rattle.domain.specs.Polynomial.{vanishing_poly}
use Rattle.domain.proofs.Fill.{Filled}
use Rattle.prover.proofs.witness.fill_vanishing.Given as goal

-- what the slice is to hold
abbrev pub coefficients : Prime → ℕ → List ℕ
coefficients q n = words (vanishing_poly {q = q} n)

abbrev pub invariant-loop-i : goal.invariant-loop-i
invariant-loop-i l = (q : Prime) → q.p ≡ l.p → Filled (coefficients q l.n) l.out l.i
