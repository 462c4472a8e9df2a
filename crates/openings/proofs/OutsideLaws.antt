-- Points outside a domain, for every prime that the code knows by its value; and a multiple of v_D divided by v_D there.
-- Assumes nothing.
use mathlib.Core.Path.{◌≡◌, sym, ap, ◌∙◌, subst}
use mathlib.Core.Bool.{true}
use mathlib.Core.List.{List, [], ◌∷◌}
use Prim.Native.Nat.{ℕ}
use lib.ListN.{length}
use borrow.Author.Tests.{not-true}
use Rattle.algebra.specs.Counting.{All}
use Rattle.algebra.proofs.Solver.{◌:*◌, :1, ◌:=◌, ◌⊙◌, ◌from◌, ring_by}
use Rattle.field.specs.Prime.{Prime}
use Rattle.field.specs.Element.{Elem, of, ◌⊗◌}
use Rattle.field.specs.Power.{reciprocal, ◌⊘◌}
use Rattle.field.proofs.ElementLaws.{prime_ring}
use Rattle.field.proofs.Field.{mul-reciprocal}
use Rattle.domain.specs.Size.{is_size, size_for}
use Rattle.domain.specs.Domain.{vanishing, Outside}
use Rattle.domain.specs.Known.{Known, KnownPrime, OutsideDomain}
use Rattle.domain.proofs.DomainLaws.{vanishing-outside}
use Rattle.domain.proofs.Divisors.{outside_smaller}
use Rattle.domain.proofs.Qualification.{known-qualifies}
use Rattle.protocol.specs.Three.{MatrixName, at}
use Rattle.protocol.specs.Circuit.{Circuit}
use Rattle.protocol.specs.Calls.{entries_of, circuit_of}
use Rattle.protocol.proofs.IndexPolynomials.{K-size}
use Rattle.protocol.proofs.MatrixPolynomials.{sizeK, largest_size, within-largest}
use Rattle.circuit.specs.Given.{given}
use Rattle.circuit.proofs.Fitting.{point_tests}
use Rattle.matrix_sumcheck.specs.MatrixGiven.{lists}
use Rattle.matrix_sumcheck.proofs.GivenLaws.{matrix-given}
use Rattle.matrix_sumcheck.proofs.MatrixTerms.{given_size}
use Rattle.openings.specs.OpeningsGiven.{PointsOutside}

-- the prime of that value is the one that the point was judged for
pub outside_here : {q : Prime} {p n y : ℕ} → Known q p → OutsideDomain p n y → Outside {q = q} n (of y)
outside_here {n = n} {y} K o =
    subst (λ (q : Prime). Outside {q = q} n (of y)) (o.over.known.is_module ∙ sym K.is_module) o.is-outside

pub exact_quotient : {q : Prime} {p : ℕ} (n : ℕ) → is_size n ≡ true → Known q p → (y : ℕ) → Outside {q = q} n (of y) → (h : Elem q)
    → (h ⊗ vanishing n (of y) ⊘ vanishing n (of y)).word ≡ h.word
exact_quotient {q} n s K y o h =
    let v : Elem q = vanishing n (of y) in
    ap (λ (a : Elem q). a.word)
    (ring_by (prime_ring q) (h ∷ v ∷ reciprocal v ∷ []) (λ h v i. h :* v :* i := h from (h ⊙ (v :* i := :1)) ∷ [])
    (mul-reciprocal v (vanishing-outside (known-qualifies K) n s (of y) o), tt) tt)

-- γ is outside each K_M
pub outside-matrix : {p r c x alpha beta gamma : ℕ} {ea eb ec : List ℕ} → PointsOutside p r c x ea eb ec alpha beta gamma → (M : MatrixName)
    → OutsideDomain p (size_for (length (entries_of (at (lists ea eb ec) M)))) gamma
outside-matrix {p} {r} {c} {x} {gamma = gamma} {ea} {eb} {ec} P M =
    let o = P.γ-outside in
    let k : Circuit = circuit_of (given r c x ea eb ec) in
    subst (λ (n : ℕ). OutsideDomain p n gamma)
    (given_size (matrix-given o.over.known (known-qualifies o.over.known) r c x ea eb ec M))
    (outside_smaller (sizeK k M) (K-size k M) (largest_size k) (within-largest k M) o)

-- what a call that was let through knows of its points
pub points_outside : {p r c x : ℕ} {ea eb ec : List ℕ} (K : KnownPrime p) (alpha beta gamma : ℕ)
    → All (λ t. t ≡ true) (point_tests r c x ea eb ec K.prime (alpha ∷ beta ∷ gamma ∷ []))
    → PointsOutside p r c x ea eb ec alpha beta gamma
points_outside K alpha beta gamma outside =
    record {
      α-outside = record { over = K; is-outside = not-true _ outside.0 };
      β-outside = record { over = K; is-outside = not-true _ outside.1.0 };
      γ-outside = record { over = K; is-outside = not-true _ outside.1.1.0 };
    }
