-- The joined check catches a false matrix value: for any g_M of the allowed lengths, at most p² of the p³ triples δ let some h2 of
-- length |K| - 1 pass it at more than 2|K| - 2 points outside K. Assumes nothing.
use mathlib.Core.Path.{◌≡◌, sym, ap, ap₂, ◌∙◌}
use mathlib.Core.Logic.{◌≢◌, ◌⊎◌, inl, inr}
use Prim.Native.Nat.{ℕ, zero, suc, ◌+◌, ◌-◌, ◌*◌, ◌≤◌, ◌<◌}
use lib.ListN.{length}
use native.Mathlib.Omega.{arith}
use native.Mathlib.Decide.{ℕ_discrete}
use Rattle.algebra.specs.Counting.{AtMost, MoreThan}
use Rattle.algebra.specs.Ring.{CommRing}
use Rattle.algebra.proofs.Counting.{all_map, at_most_of}
use Rattle.algebra.proofs.ExactCounting.{exactly_at_most}
use Rattle.algebra.proofs.PolynomialLaws.{eval-scale, eval_mul, length-scale, length-product}
use Rattle.algebra.proofs.RingLaws.{zero-add, one_mul, mul-zero}
use Rattle.field.specs.Prime.{Prime}
use Rattle.field.specs.Element.{Elem, 𝟘, ◌⊗◌}
use Rattle.field.proofs.ElementLaws.{decide, mul_assoc, mul_comm, prime_ring}
use Rattle.domain.specs.Domain.{element, Outside, vanishing}
use Rattle.domain.specs.Polynomial.{Poly, eval, ◌·◌, ◌⊠◌}
use Rattle.domain.specs.Qualifies.{Qualifies}
use Rattle.domain.proofs.SizeLaws.{size_positive}
use Rattle.domain.proofs.Division.{length_vanishing_ratio}
use Rattle.protocol.specs.Three.{MatrixName, Three, at, each, sum_matrices}
use Rattle.protocol.specs.Circuit.{Circuit, sizes_of, largest}
use Rattle.protocol.specs.Index.{index_at, index}
use Rattle.protocol.specs.Checks.{Transcript, Openings, matrix_left, selector, joined_left, joined_right}
use Rattle.protocol.specs.Messages.{lengths}
use Rattle.protocol.specs.Demand3.{Setting, ValuesCaught}
use Rattle.protocol.proofs.AdmissionLaws.{WellFormed, admitted_well_formed}
use Rattle.protocol.proofs.IndexPolynomials.{K-size}
use Rattle.protocol.proofs.LinearCounting.{linear, linear_solutions}
use Rattle.protocol.proofs.MatrixPolynomials.{sizeK, sizeK_positive, largest_size, within-largest}
use Rattle.protocol.proofs.MatrixPolynomials.{left_value, matrix_poly, eval_matrix_poly, length_matrix_poly}
use Rattle.protocol.proofs.ThreeLaws.{at_each}
use Rattle.domain.proofs.ExactDivision.{vanishing_on, quotient_recovers}
use Rattle.protocol.proofs.JoinedPolynomials.{sum_matrices_ext, sum_polys, eval_sum_polys, length_sum_polys}
use Rattle.protocol.proofs.JoinedPolynomials.{share, cofactor, eval_cofactor, selector-is, share_cofactor}
use Rattle.protocol.proofs.MatrixCheck.{matrix-length, vanishing-parts}

-- a search among the first n values for one that is not 0
nonzero_or_zeros : {q : Prime} (n : ℕ) (f : ℕ → Elem q) → ((i : ℕ) × (i < n) × (f i ≢ 𝟘)) ⊎ ((i : ℕ) → i < n → f i ≡ 𝟘)
nonzero_or_zeros zero f = inr (λ i below. absurd (omega arith))
nonzero_or_zeros {q} (suc n) f = go (decide (f n) 𝟘) (nonzero_or_zeros n f)
  where
    go : Dec (f n ≡ 𝟘) → ((i : ℕ) × (i < n) × (f i ≢ 𝟘)) ⊎ ((i : ℕ) → i < n → f i ≡ 𝟘)
        → ((i : ℕ) × (i < suc n) × (f i ≢ 𝟘)) ⊎ ((i : ℕ) → i < suc n → f i ≡ 𝟘)
    go (no other) rest = inl (n, omega arith, other)
    go (yes none) (inl (i, below, other)) = inl (i, omega arith, other)
    go (yes none) (inr zeros) = inr (λ i below. elim (ℕ_discrete i n) [ yes same ↦ ap f same ∙ none | no ne ↦ zeros i (omega arith) ])

module _ {q : Prime} (c : Circuit) (α β : Elem q) (ω : Three (Elem q)) (g : Three (Poly q)) where
  abbrev R : CommRing (Elem q)
  R = prime_ring q

  abbrev K : ℕ
  K = largest (sizes_of c).|K|

  -- E_M, the left side of M's rule
  abbrev side : MatrixName → Poly q
  side M = matrix_poly c α β M (at ω M) (at g M)

  -- (|K_M|/|K|) (v_K/v_{K_M}) E_M, which does not depend on δ
  selected : MatrixName → Poly q
  selected M = share c M · cofactor c M ⊠ side M

  eval_selected : (M : MatrixName) (y : Elem q) → eval (selected M) y ≡ share c M ⊗ eval (cofactor c M) y ⊗ eval (side M) y
  unfolding selected
  eval_selected M y =
      eval-scale R (share c M) (cofactor c M ⊠ side M) y
      ∙ ap (λ x. share c M ⊗ x) (eval_mul R (cofactor c M) (side M) y) ∙ sym (mul_assoc _ _ _)

  -- Σ δ_M s_M E_M
  abbrev joined_term : Three (Elem q) → MatrixName → Poly q
  joined_term δ M = at δ M · selected M

  abbrev joined_poly : Three (Elem q) → Poly q
  joined_poly δ = sum_polys (joined_term δ)

  -- the left side of the joined check at γ
  abbrev left_at : Three (Elem q) → Elem q → Elem q
  left_at δ γ =
      sum_matrices (λ M. at δ M ⊗ selector (sizes_of c) M γ ⊗ left_value c α β M (at ω M) (index_at (index c M) γ) γ (eval (at g M) γ))

  -- some h2 passes at enough points
  abbrev Passes : Three (Elem q) → Type 0
  Passes δ =
      (h2 : Poly q) × (length h2 ≡ (lengths (sizes_of c)).joined_quotient)
      × MoreThan (2 * K - 2) (λ γ. Outside K γ × (left_at δ γ ≡ eval h2 γ ⊗ vanishing K γ))

  module _ (Q : Qualifies q) (g_lengths : (M : MatrixName) → length (at g M) ≡ at (lengths (sizes_of c)).matrix_remainders M) where
    length_selected : (M : MatrixName) → suc (length (selected M)) ≡ sizeK c M + K
    unfolding selected
    length_selected M =
        let positive : 0 < sizeK c M = sizeK_positive c M in
        let within : sizeK c M ≤ K = within-largest c M in
        let left : length (cofactor c M) ≡ K - sizeK c M + 1 = length_vanishing_ratio q (sizeK c M) K (K-size c M) (largest_size c) within in
        let right : length (side M) ≡ 2 * sizeK c M - 1 = length_matrix_poly c α β M (at ω M) (at g M) (g_lengths M ∙ matrix-length (sizes_of c) M) in
        let product = length-product R (cofactor c M) (side M) (omega arith) (omega arith) in
        omega (arith, product, length-scale R (share c M) (cofactor c M ⊠ side M))

    -- on K_M it is E_M
    selected_on : (M : MatrixName) (i : ℕ) → i < sizeK c M → eval (selected M) (element (sizeK c M) i) ≡ eval (side M) (element (sizeK c M) i)
    selected_on M i below =
        eval_selected M (element (sizeK c M) i) ∙ ap (λ x. x ⊗ eval (side M) (element (sizeK c M) i)) (share_cofactor Q c M i below)
        ∙ one_mul R _

    module _ (δ : Three (Elem q)) where
      length_joined_poly : length (joined_poly δ) ≡ 2 * K - 1
      length_joined_poly =
          let l = length_sum_polys (joined_term δ) (sizes_of c).|K| K (λ M. ap suc (length-scale R (at δ M) (selected M)) ∙ length_selected M) in
          omega (arith, l)

      eval_joined_poly : (γ : Elem q) → Outside K γ → eval (joined_poly δ) γ ≡ left_at δ γ
      eval_joined_poly γ outside = eval_sum_polys (joined_term δ) γ ∙ sum_matrices_ext _ _ term
        where
          term : (M : MatrixName) → eval (joined_term δ M) γ
              ≡ at δ M ⊗ selector (sizes_of c) M γ ⊗ left_value c α β M (at ω M) (index_at (index c M) γ) γ (eval (at g M) γ)
          term M =
              eval-scale R (at δ M) (selected M) γ
              ∙ ap (λ x. at δ M ⊗ x) (eval_selected M γ ∙ ap₂ ◌⊗◌ (sym (selector-is Q c M γ outside)) (eval_matrix_poly c α β M (at ω M) (at g M) γ))
              ∙ sym (mul_assoc _ _ _)

      -- enough equal points: on K it is 0, which is a linear equation in δ
      joined_linear : Passes δ → (y : Elem q) → vanishing K y ≡ 𝟘 → linear 𝟘 (each (λ M. eval (selected M) y)) δ ≡ 𝟘
      unfolding lengths
      joined_linear (h2, h2-length, (l, distinct, equal, more)) y on =
          let positive : 0 < K = size_positive K (largest_size c) in
          let long : length (joined_poly δ) ≡ 2 * K - 1 = length_joined_poly in
          zero-add R _
          ∙ sum_matrices_ext _ _ (λ M. mul_comm _ _ ∙ sym (eval-scale R (at δ M) (selected M) y))
          ∙ sym (eval_sum_polys (joined_term δ) y)
          ∙ (quotient_recovers Q K (largest_size c) (joined_poly δ) h2 (omega arith) (omega arith) (2 * K - 2) (omega arith)
          (l, distinct, all_map (λ γ e. (e.0, eval_joined_poly γ e.0 ∙ e.1)) l equal, more)).1 y
          ∙ ap (λ v. eval h2 y ⊗ v) on ∙ mul-zero R _

    -- where E_M is not 0 at some point of K_M, at most p² triples δ let some h2 pass
    few_pass : (M : MatrixName) (i : ℕ) → i < sizeK c M → eval (side M) (element (sizeK c M) i) ≢ 𝟘 → AtMost (q.p * q.p) Passes
    few_pass M i below other =
        at_most_of (λ δ pass. joined_linear δ pass κ on)
        (exactly_at_most (linear_solutions 𝟘 errors M (λ e. other (sym (selected_on M i below) ∙ sym (at_each (λ N. eval (selected N) κ) M) ∙ e))))
      where
        κ : Elem q
        κ = element (sizeK c M) i

        errors : Three (Elem q)
        errors = each (λ N. eval (selected N) κ)

        on : vanishing K κ ≡ 𝟘
        on = sym (eval_cofactor Q c M κ) ∙ ap (λ v. eval (cofactor c M) κ ⊗ v) (vanishing_on Q (sizeK c M) (K-size c M) i below)
            ∙ mul-zero R _

pub values_caught : {q : Prime} (Q : Qualifies q) (S : Setting q) (t : Transcript (Elem q)) → Outside S.circuit.|R| t.α
    → Outside S.circuit.|C| t.β → (o : Openings (Elem q)) (g : Three (Poly q))
    → ((M : MatrixName) → length (at g M) ≡ at (lengths (sizes_of S.circuit)).matrix_remainders M) → ValuesCaught q S t o g
unfolding matrix_left joined_left joined_right
values_caught {q} Q S t α-outside β-outside o g g_lengths M false =
    elim (nonzero_or_zeros (sizeK c M) (λ i. eval (side c α β ω g M) (element (sizeK c M) i))) [
      | inl (i, below, other) ↦ few_pass c α β ω g Q g_lengths M i below other
      | inr zeros ↦
          absurd (false (vanishing-parts Q c W α β α-outside β-outside M (at ω M) (at g M) (g_lengths M ∙ matrix-length (sizes_of c) M) zeros).0)
    ]
  where
    c : Circuit
    c = S.circuit

    W : WellFormed q.p c
    W = admitted_well_formed q c S.admitted

    α : Elem q
    α = t.α

    β : Elem q
    β = t.β

    ω : Three (Elem q)
    ω = t.values
