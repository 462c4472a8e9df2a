-- What the joined check's polynomials are made of: sums of three polynomials, one for each matrix, with their values and lengths; and
-- s_M at the points outside K as the value of (|K_M|/|K|) v_K/v_{K_M}, which is 1 on K_M. Assumes nothing.
use mathlib.Core.Path.{◌≡◌, ap, ap₂, ◌∙◌}
use mathlib.Core.Logic.{◌≢◌}
use mathlib.Core.List.{[], ◌∷◌}
use Prim.Native.Nat.{ℕ, suc, ◌+◌, ◌/◌, ◌<◌}
use lib.ListN.{length}
use native.Mathlib.Omega.{arith}
use Rattle.algebra.specs.Ring.{CommRing}
use Rattle.algebra.proofs.PolynomialLaws.{eval_add, length-add}
use Rattle.algebra.proofs.Solver.{◌:*◌, :-◌, :1, ◌:=◌, ◌⊙◌, ◌from◌, ring_by}
use Rattle.field.specs.Prime.{Prime}
use Rattle.field.specs.Element.{Elem, of, 𝟘, 𝟙, ◌⊕◌, ◌⊗◌}
use Rattle.field.specs.Power.{reciprocal, ◌⊘◌}
use Rattle.field.proofs.ElementLaws.{of-mul, prime_ring}
use Rattle.field.proofs.Field.{mul-reciprocal, reciprocal-product}
use Rattle.domain.specs.Domain.{element, Outside, vanishing}
use Rattle.domain.specs.Polynomial.{Poly, eval, ◌⊞◌}
use Rattle.domain.specs.Qualifies.{Qualifies}
use Rattle.domain.proofs.SizeLaws.{size_divides, size_not-zero}
use Rattle.domain.proofs.DomainLaws.{inside-element, vanishing-outside, outside_subgroup}
use Rattle.domain.proofs.Division.{vanishing_ratio, eval_vanishing_ratio, vanishing_ratio_inside}
use Rattle.protocol.specs.Three.{MatrixName, A, B, C, Three, at, sum_matrices}
use Rattle.protocol.specs.Circuit.{Circuit, sizes_of, largest}
use Rattle.protocol.specs.Checks.{selector}
use Rattle.protocol.proofs.IndexPolynomials.{K-size}
use Rattle.protocol.proofs.MatrixPolynomials.{sizeK, largest_size, within-largest}

module _ {q : Prime} where
  pub sum_matrices_ext : (f g : MatrixName → Elem q) → ((M : MatrixName) → f M ≡ g M) → sum_matrices f ≡ sum_matrices g
  sum_matrices_ext f g h = ap₂ ◌⊕◌ (ap₂ ◌⊕◌ (h A) (h B)) (h C)

  -- a sum of polynomials, one for each matrix
  abbrev pub sum_polys : (MatrixName → Poly q) → Poly q
  sum_polys f = f A ⊞ f B ⊞ f C

  pub eval_sum_polys : (f : MatrixName → Poly q) (y : Elem q) → eval (sum_polys f) y ≡ sum_matrices (λ M. eval (f M) y)
  eval_sum_polys f y = eval_add (prime_ring q) (f A ⊞ f B) (f C) y ∙ ap (λ x. x ⊕ eval (f C) y) (eval_add (prime_ring q) (f A) (f B) y)

  -- where each of the three is as long as a size and d - 1, the sum is as long as the largest and d - 1
  pub length_sum_polys : (f : MatrixName → Poly q) (k : Three ℕ) (d : ℕ) → ((M : MatrixName) → suc (length (f M)) ≡ at k M + d)
      → suc (length (sum_polys f)) ≡ largest k + d
  unfolding largest
  length_sum_polys f k d h =
      omega (arith, length-add (prime_ring q) (f A ⊞ f B) (f C), length-add (prime_ring q) (f A) (f B), h A, h B, h C)

module _ {q : Prime} (c : Circuit) (M : MatrixName) where
  -- |K_M|/|K|
  abbrev pub share : Elem q
  share = of (sizeK c M) ⊘ of (largest (sizes_of c).|K|)

  -- v_K/v_{K_M}
  abbrev pub cofactor : Poly q
  cofactor = vanishing_ratio (sizeK c M) (largest (sizes_of c).|K|)

module _ {q : Prime} (Q : Qualifies q) (c : Circuit) (M : MatrixName) where
  abbrev R : CommRing (Elem q)
  R = prime_ring q

  abbrev k : ℕ
  k = sizeK c M

  abbrev K : ℕ
  K = largest (sizes_of c).|K|

  pub eval_cofactor : (y : Elem q) → eval (cofactor c M) y ⊗ vanishing k y ≡ vanishing K y
  eval_cofactor = eval_vanishing_ratio k K (K-size c M) (largest_size c) (within-largest c M)

  -- s_M as a polynomial's value
  pub selector-is : (γ : Elem q) → Outside K γ → selector (sizes_of c) M γ ≡ share c M ⊗ eval (cofactor c M) γ
  unfolding selector
  selector-is γ outside =
      ap (λ x. of k ⊗ vanishing K γ ⊗ x) (reciprocal-product (of K) (vanishing k γ) (size_not-zero K (largest_size c)) nonzero)
      ∙ ring_by R (of k ∷ reciprocal (of K) ∷ vanishing K γ ∷ vanishing k γ ∷ reciprocal (vanishing k γ) ∷ eval (cofactor c M) γ ∷ [])
      (λ k i w v j r. k :* w :* (i :* j) := k :* i :* r from ((:- (k :* i :* j)) ⊙ (r :* v := w)) ∷ (k :* i :* r ⊙ (v :* j := :1)) ∷ [])
      (eval_cofactor γ, (mul-reciprocal (vanishing k γ) nonzero, tt)) tt
    where
      nonzero : vanishing k γ ≢ 𝟘
      nonzero = vanishing-outside Q k (K-size c M) γ (outside_subgroup Q k K (K-size c M) (largest_size c) (within-largest c M) γ outside)

  -- on K_M, the cofactor is |K|/|K_M|
  pub share_cofactor : (i : ℕ) → i < k → share c M ⊗ eval (cofactor c M) (element k i) ≡ 𝟙 {q = q}
  share_cofactor i below =
      let r : Elem q = of (K / k) in
      let inside-K = inside-element Q k (K-size c M) i below in
      ap (λ x. share c M ⊗ x) (vanishing_ratio_inside Q k K (K-size c M) (largest_size c) (within-largest c M) (element k i) inside-K)
      ∙ ring_by R (of k ∷ of K ∷ reciprocal (of K) ∷ r ∷ [])
      (λ k w i r. k :* i :* r := :1 from ((:- i) ⊙ (w := k :* r)) ∷ (:1 ⊙ (w :* i := :1)) ∷ []) (
        ap of (size_divides k K (K-size c M) (largest_size c) (within-largest c M)) ∙ of-mul k (K / k),
        (mul-reciprocal (of K) (size_not-zero K (largest_size c)), tt),
      ) tt
