-- What one matrix's rule means: g and h of length |K_M| - 1 make its sides equal at more than 2|K_M| - 2 points outside K exactly
-- when ω = M̂(α,β). Then g and h are the prover's. Assumes nothing.
use mathlib.Core.Path.{◌≡◌, sym, ap, ap₂, ◌∙◌}
use mathlib.Core.List.{[], ◌∷◌, tail}
use Prim.Native.Nat.{ℕ, ◌-◌, ◌*◌, ◌<◌}
use lib.ListN.{length, get_or}
use native.Mathlib.Omega.{arith}
use Rattle.algebra.specs.Counting.{MoreThan}
use Rattle.algebra.specs.Ring.{CommRing}
use Rattle.algebra.proofs.Counting.{all_map}
use Rattle.algebra.proofs.Division.{length-quotient}
use Rattle.algebra.proofs.PolynomialLaws.{eval_mul}
use Rattle.algebra.proofs.RingLaws.{mul-zero}
use Rattle.algebra.proofs.Solver.{◌:-◌, ◌:*◌, :-◌, :0, :1, ◌:=◌, ◌⊙◌, ◌from◌, ring_by}
use Rattle.field.specs.Prime.{Prime}
use Rattle.field.specs.Element.{Elem, of, 𝟘, ◌⊗◌, ◌⊖◌}
use Rattle.field.specs.Power.{reciprocal, ◌⊘◌}
use Rattle.field.proofs.ElementLaws.{prime_ring}
use Rattle.field.proofs.Field.{mul-reciprocal}
use Rattle.domain.specs.Domain.{element, Outside, vanishing}
use Rattle.domain.specs.Polynomial.{Poly, eval, ◌⊟◌, ◌⊠◌, quotient}
use Rattle.domain.specs.Qualifies.{Qualifies}
use Rattle.domain.proofs.Qualification.{large_enough}
use Rattle.domain.proofs.SizeLaws.{size_bound, size_not-zero}
use Rattle.domain.proofs.DomainLaws.{sum_over_ext, outside_many, outside_subgroup}
use Rattle.domain.proofs.Interpolation.{length-agreeing, eval-agreeing, equal_on_domain}
use Rattle.domain.proofs.Division.{vanishing_divides}
use Rattle.protocol.specs.Three.{MatrixName, at}
use Rattle.protocol.specs.Circuit.{Circuit, Sizes, sizes_of, largest, extension}
use Rattle.protocol.specs.Index.{index_at, index}
use Rattle.protocol.specs.Checks.{Transcript, matrix_left, matrix_right}
use Rattle.protocol.specs.Messages.{lengths, numerator, denominator, ratio, matrix_remainder, matrix_quotient}
use Rattle.protocol.specs.Demand3.{Setting, MatrixMeans}
use Rattle.protocol.proofs.AdmissionLaws.{WellFormed, admitted_well_formed}
use Rattle.protocol.proofs.IndexPolynomials.{K-size}
use Rattle.protocol.proofs.ThreeLaws.{at_each}
use Rattle.protocol.proofs.MessagePolynomials.{eval_minus}
use Rattle.domain.proofs.ExactDivision.{vanishing_on, quotient_recovers, constant-of-sum}
use Rattle.protocol.proofs.MatrixPolynomials.{sizeK, sizeK_positive, largest_size, within-largest}
use Rattle.protocol.proofs.MatrixPolynomials.{left_value, matrix_poly, eval_matrix_poly, length_matrix_poly}
use Rattle.protocol.proofs.MatrixSum.{denominator-not-zero, sum-of_ratios}

-- the length of g_M and of h_M
pub matrix-length : (s : Sizes) (M : MatrixName) → at (lengths s).matrix_remainders M ≡ at s.|K| M - 1
unfolding lengths
matrix-length s M = at_each (λ N. at s.|K| N - 1) M

module _ {q : Prime} (Q : Qualifies q) (c : Circuit) (W : WellFormed q.p c) (α β : Elem q) (α-outside : Outside c.|R| α)
    (β-outside : Outside c.|C| β) (M : MatrixName) where
  abbrev R : CommRing (Elem q)
  R = prime_ring q

  abbrev k : ℕ
  k = sizeK c M

  abbrev κ : ℕ → Elem q
  κ = element k

  abbrev a : Poly q
  a = numerator c α β M

  abbrev b : Poly q
  b = denominator c α β M

  -- M̂(α,β)
  abbrev value : Elem q
  value = extension c M α β

  ratio-at : (i : ℕ) → i < k → eval (ratio c α β M) (κ i) ≡ eval a (κ i) ⊘ eval b (κ i)
  unfolding ratio
  ratio-at i below = eval-agreeing Q k (K-size c M) (λ y. eval a y ⊘ eval b y) i below

  pub length-ratio : length (ratio c α β M) ≡ k
  unfolding ratio
  length-ratio = length-agreeing k _

  -- its constant is M̂(α,β)/|K_M|
  pub ratio-parts : ratio c α β M ≡ value ⊘ of k ∷ matrix_remainder c α β M
  unfolding matrix_remainder
  ratio-parts = constant-of-sum Q k (K-size c M) (ratio c α β M) length-ratio
      ∙ ap (λ x. x ⊘ of k ∷ tail (ratio c α β M)) (sum_over_ext k _ _ ratio-at ∙ sum-of_ratios Q c W α β α-outside β-outside M)

  -- and |K_M| times it is M̂(α,β)
  pub value_by_constant : of k ⊗ get_or (ratio c α β M) 0 𝟘 ≡ value
  value_by_constant =
      ap (λ f. of k ⊗ get_or f 0 𝟘) ratio-parts
      ∙ ring_by R (value ∷ of k ∷ reciprocal (of k) ∷ []) (λ v n i. n :* (v :* i) := v from (v ⊙ (n :* i := :1)) ∷ [])
      (mul-reciprocal (of k) (size_not-zero k (K-size c M)), tt) tt

  module _ (ω : Elem q) (g : Poly q) where
    left_at : (i : ℕ) → eval (matrix_poly c α β M ω g) (κ i) ≡ eval a (κ i) ⊖ eval b (κ i) ⊗ eval (ω ⊘ of k ∷ g) (κ i)
    unfolding matrix_poly
    left_at i = eval_minus a (b ⊠ (ω ⊘ of k ∷ g)) (κ i) ∙ ap (λ x. eval a (κ i) ⊖ x) (eval_mul R b (ω ⊘ of k ∷ g) (κ i))

    -- where the left side is 0 on K_M, Y g + ω/|K_M| is the prover's
    pub vanishing-parts : length g ≡ k - 1 → ((i : ℕ) → i < k → eval (matrix_poly c α β M ω g) (κ i) ≡ 𝟘)
        → (ω ≡ value) × (g ≡ matrix_remainder c α β M)
    vanishing-parts e h = (
      ring_by R (ω ∷ value ∷ of k ∷ reciprocal (of k) ∷ [])
          (λ w v n i. w := v from (n ⊙ (w :* i := v :* i)) ∷ ((v :- w) ⊙ (n :* i := :1)) ∷ [])
          (ap (λ f. get_or f 0 𝟘) same, (mul-reciprocal (of k) (size_not-zero k (K-size c M)), tt)) tt,
      ap tail same,
    )
      where
        G : Poly q
        G = ω ⊘ of k ∷ g

        at_place : (i : ℕ) → i < k → eval G (κ i) ≡ eval (ratio c α β M) (κ i)
        at_place i below =
            ring_by R (eval a (κ i) ∷ eval b (κ i) ∷ reciprocal (eval b (κ i)) ∷ eval G (κ i) ∷ [])
            (λ a b i g. g := a :* i from ((:- i) ⊙ (a :- b :* g := :0)) ∷ ((:- g) ⊙ (b :* i := :1)) ∷ [])
            (sym (left_at i) ∙ h i below, (mul-reciprocal (eval b (κ i)) (denominator-not-zero Q c W α β α-outside β-outside M i below), tt)) tt
            ∙ sym (ratio-at i below)

        same : G ≡ value ⊘ of k ∷ matrix_remainder c α β M
        same = equal_on_domain Q k (K-size c M) G (ratio c α β M) (omega (arith, sizeK_positive c M)) length-ratio at_place ∙ ratio-parts

  -- with the prover's g_M the left side is 0 on K_M
  rule_vanishes : (i : ℕ) → i < k → eval (matrix_poly c α β M value (matrix_remainder c α β M)) (κ i) ≡ 𝟘
  rule_vanishes i below =
      left_at value (matrix_remainder c α β M) i
      ∙ ring_by R (eval a (κ i) ∷ eval b (κ i) ∷ reciprocal (eval b (κ i)) ∷ eval (value ⊘ of k ∷ matrix_remainder c α β M) (κ i) ∷ [])
      (λ a b i g. a :- b :* g := :0 from ((:- b) ⊙ (g := a :* i)) ∷ ((:- a) ⊙ (b :* i := :1)) ∷ []) (
        ap (λ f. eval f (κ i)) (sym ratio-parts) ∙ ratio-at i below,
        (mul-reciprocal (eval b (κ i)) (denominator-not-zero Q c W α β α-outside β-outside M i below), tt),
      ) tt

  pub length-matrix_remainder : length (matrix_remainder c α β M) ≡ at (lengths (sizes_of c)).matrix_remainders M
  length-matrix_remainder = omega (arith, matrix-length (sizes_of c) M, length-ratio, ap length ratio-parts)

  quotient_is : matrix_quotient c α β M ≡ quotient k (matrix_poly c α β M value (matrix_remainder c α β M))
  unfolding matrix_quotient matrix_poly
  quotient_is = ap (λ r. quotient k (a ⊟ b ⊠ r)) ratio-parts

  pub length-matrix_quotient : length (matrix_quotient c α β M) ≡ at (lengths (sizes_of c)).matrix_remainders M
  length-matrix_quotient = omega (
    arith,
    sizeK_positive c M,
    matrix-length (sizes_of c) M,
    ap length quotient_is,
    length-quotient R k (matrix_poly c α β M value (matrix_remainder c α β M)) (sizeK_positive c M),
    length_matrix_poly c α β M value (matrix_remainder c α β M) (length-matrix_remainder ∙ matrix-length (sizes_of c) M),
  )

  -- the prover's g_M and h_M make the sides equal at every point
  pub matrix_rule : (y : Elem q)
      → left_value c α β M value (index_at (index c M) y) y (eval (matrix_remainder c α β M) y)
      ≡ matrix_right (sizes_of c) M y (eval (matrix_quotient c α β M) y)
  unfolding matrix_right
  matrix_rule y = sym (eval_matrix_poly c α β M value (matrix_remainder c α β M) y)
      ∙ vanishing_divides Q k (K-size c M) (matrix_poly c α β M value (matrix_remainder c α β M)) rule_vanishes y
      ∙ ap (λ h. eval h y ⊗ vanishing k y) (sym quotient_is)

  module _ (ω : Elem q) where
    abbrev Equal : Poly q → Poly q → Elem q → Type 0
    Equal g h y = left_value c α β M ω (index_at (index c M) y) y (eval g y) ≡ matrix_right (sizes_of c) M y (eval h y)

    abbrev Allowed : Elem q → Type 0
    Allowed = Outside (largest (sizes_of c).|K|)

    outside-K : (y : Elem q) → Allowed y → Outside k y
    outside-K = outside_subgroup Q k (largest (sizes_of c).|K|) (K-size c M) (largest_size c) (within-largest c M)

    abbrev Fits : Poly q → Type 0
    Fits f = length f ≡ at (lengths (sizes_of c)).matrix_remainders M

    module _ (g h : Poly q) (g-length : Fits g) (h-length : Fits h) (many : MoreThan (2 * k - 2) (λ y. Allowed y × Equal g h y)) where
      -- enough equal points: h is the quotient, and the sides are equal at every point
      recovered : (quotient k (matrix_poly c α β M ω g) ≡ h) × ((y : Elem q) → eval (matrix_poly c α β M ω g) y ≡ eval h y ⊗ vanishing k y)
      unfolding matrix_right
      recovered =
          let (l, distinct, equal, more) = many in
          let side : length (matrix_poly c α β M ω g) ≡ 2 * k - 1 = length_matrix_poly c α β M ω g (g-length ∙ matrix-length (sizes_of c) M) in
          let positive : 0 < k = sizeK_positive c M in
          quotient_recovers Q k (K-size c M) (matrix_poly c α β M ω g) h (omega arith) (omega (arith, matrix-length (sizes_of c) M))
          (2 * k - 2) (omega arith) (l, distinct, all_map (λ y e. (outside-K y e.0, eval_matrix_poly c α β M ω g y ∙ e.1)) l equal, more)

      parts : (ω ≡ value) × (g ≡ matrix_remainder c α β M)
      parts = vanishing-parts ω g (g-length ∙ matrix-length (sizes_of c) M) (λ i below.
          recovered.1 (κ i) ∙ ap (λ v. eval h (κ i) ⊗ v) (vanishing_on Q k (K-size c M) i below) ∙ mul-zero R _)

      -- they are the prover's
      choice_is : ◌≡◌ {A = Poly q × Poly q} (g, h) (matrix_remainder c α β M, matrix_quotient c α β M)
      choice_is =
          let quotients : h ≡ matrix_quotient c α β M =
          sym recovered.0 ∙ ap₂ (λ w f. quotient k (matrix_poly c α β M w f)) parts.0 parts.1 ∙ sym quotient_is in
          ap₂ {C = Poly q × Poly q} (λ f e. (f, e)) parts.1 quotients

      sides_equal : (y : Elem q) → Equal g h y
      unfolding matrix_right
      sides_equal y = sym (eval_matrix_poly c α β M ω g y) ∙ recovered.1 y

    -- the prover's polynomials, where ω is M̂(α,β)
    many_equal : ω ≡ value → MoreThan (2 * k - 2) (λ y. Allowed y × Equal (matrix_remainder c α β M) (matrix_quotient c α β M) y)
    many_equal true-value =
        let K : ℕ = largest (sizes_of c).|K| in
        let (l, distinct, outside, more) = outside_many Q K (largest_size c) (2 * k - 2)
        (omega (arith, large_enough q Q, size_bound k (K-size c M), size_bound K (largest_size c))) in
        (l, distinct, all_map (λ y o. (o, rw true-value (matrix_rule y))) l outside, more)

pub matrix_means : {q : Prime} (Q : Qualifies q) (S : Setting q) (M : MatrixName) (t : Transcript (Elem q))
    → Outside S.circuit.|R| t.α → Outside S.circuit.|C| t.β → MatrixMeans q S M t
unfolding matrix_left
matrix_means {q} Q S M t α-outside β-outside =
    record {
      complete = λ true-value. (
        (matrix_remainder c α β M, matrix_quotient c α β M),
        (length-matrix_remainder Q c W α β α-outside β-outside M, length-matrix_quotient Q c W α β α-outside β-outside M),
        many_equal Q c W α β α-outside β-outside M ω true-value,
      );
      sound = λ (g, h) (g-length, h-length) many. (parts Q c W α β α-outside β-outside M ω g h g-length h-length many).0;
      unique = λ (g, h) (g', h') (g-length, h-length) (g'-length, h'-length) many many'.
          choice_is Q c W α β α-outside β-outside M ω g h g-length h-length many
          ∙ sym (choice_is Q c W α β α-outside β-outside M ω g' h' g'-length h'-length many');
      everywhere = λ (g, h) (g-length, h-length) many y o. sides_equal Q c W α β α-outside β-outside M ω g h g-length h-length many y;
    }
  where
    c : Circuit
    c = S.circuit

    W : WellFormed q.p c
    W = admitted_well_formed q c S.admitted

    α : Elem q
    α = t.α

    β : Elem q
    β = t.β

    ω : Elem q
    ω = at t.values M
