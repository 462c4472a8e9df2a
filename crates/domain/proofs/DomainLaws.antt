-- Domains of a prime that qualifies. The elements are the n powers of a root of order n, and are exactly the points at which
-- v_D is 0; a smaller domain lies in a larger; most points lie outside; and the laws of sums over a domain. Assumes nothing.
use mathlib.Core.Path.{◌≡◌, refl, sym, ap, ap₂, ◌∙◌}
use mathlib.Core.Logic.{◌≢◌, ◌⊎◌, inl, inr}
use mathlib.Core.Bool.{Bool, true, false, true≢false}
use mathlib.Core.List.{[], ◌∷◌, ◌++◌}
use Prim.Native.Nat.{ℕ, suc, ◌+◌, ◌-◌, ◌*◌, ◌/◌, ◌%◌, ◌≤◌, ◌<◌}
use lib.ListN.{length, replicate, length-append, length-replicate}
use native.Mathlib.Omega.{arith}
use native.Mathlib.Nat.{mul_assoc, mul_comm, mod-add-div', mod-eq_of_lt, div-eq_of_eq-mul_right}
use Rattle.algebra.specs.Lists.{tabulate}
use Rattle.algebra.specs.Counting.{AtMost, MoreThan}
use Rattle.algebra.specs.Ring.{Order, pow}
use Rattle.algebra.proofs.RingLaws.{zero-mul, neg-neg, neg-zero, sub_zero→eq, eq→sub_zero, pow-add, pow-mul, one_pow}
use Rattle.algebra.proofs.Solver.{◌:+◌, ◌:*◌, :0, :1, ◌:=◌, ◌⊙◌, ◌from◌, ring_by}
use Rattle.algebra.proofs.SumLaws.{sum_ext, sum-add, sum-scale}
use Rattle.algebra.proofs.PolynomialLaws.{eval_append, eval-replicate-zero, length-tabulate}
use Rattle.algebra.proofs.RootBound.{root_bound}
use Rattle.algebra.proofs.Counting.{all_of, at_most_mono, distinct-tabulate, more_than_rest}
use Rattle.algebra.proofs.Unity.{powers-distinct, power-root, root-is-power}
use Rattle.field.specs.Prime.{Prime}
use Rattle.field.specs.Element.{Elem, of, 𝟘, 𝟙, ◌⊕◌, ◌⊗◌, ◌⊖◌, neg, equal, words}
use Rattle.field.proofs.ElementLaws.{add_comm, mul_one, one_not_zero, decide, prime_ring}
use Rattle.field.proofs.Words.{of-result}
use Rattle.field.proofs.Field.{no_zero_divisors, power-is-pow, equal-true, true-equal}
use Rattle.domain.specs.Size.{is_size}
use Rattle.domain.specs.Domain.{root, element, domain, inside, Outside, vanishing, sum_over}
use Rattle.domain.specs.Polynomial.{Poly, eval, vanishing_poly}
use Rattle.domain.specs.Qualifies.{Qualifies}
use Rattle.domain.proofs.ListLaws.{any-tabulate, tabulate-any}
use Rattle.domain.proofs.SizeLaws.{size_is-power, size_positive, size_divides, size_divides_order}

-- Y^k
abbrev pub monomial : {q : Prime} → ℕ → Poly q
monomial k = replicate k 𝟘 ++ (𝟙 ∷ [])

pub length_monomial : (q : Prime) (k : ℕ) → length (monomial {q = q} k) ≡ suc k
length_monomial q k = omega (arith, length-append (replicate k (𝟘 {q = q})) (𝟙 ∷ []), length-replicate k (𝟘 {q = q}))

pub eval_monomial : {q : Prime} (k : ℕ) (y : Elem q) → eval (monomial k) y ≡ pow (prime_ring q) y k
eval_monomial {q} k y =
    eval_append (prime_ring q) (replicate k 𝟘) (𝟙 ∷ []) y
    ∙ ring_by (prime_ring q) (y ∷ pow (prime_ring q) y k ∷ pow (prime_ring q) y (length (replicate k (𝟘 {q = q}))) ∷ eval (replicate k 𝟘) y ∷ [])
    (λ y p p' z. z :+ p' :* (:1 :+ y :* :0) := p from (:1 ⊙ (z := :0)) ∷ (:1 ⊙ (p' := p)) ∷ [])
    (eval-replicate-zero (prime_ring q) k y, (ap (pow (prime_ring q) y) (length-replicate k 𝟘), tt)) tt

-- v_D as a polynomial
pub length-vanishing_poly : (q : Prime) (n : ℕ) → 0 < n → length (vanishing_poly {q = q} n) ≡ suc n
unfolding vanishing_poly
length-vanishing_poly q n pos = omega (arith, length_monomial q (n - 1))

pub eval-vanishing_poly : {q : Prime} (n : ℕ) → 0 < n → (y : Elem q) → eval (vanishing_poly n) y ≡ vanishing n y
unfolding vanishing_poly vanishing
eval-vanishing_poly {q} n pos y =
    let positive : suc (n - 1) ≡ n = omega arith in
    add_comm (neg 𝟙) _ ∙ ap (λ x. x ⊖ 𝟙) (ap (λ x. y ⊗ x) (eval_monomial (n - 1) y) ∙ ap (pow (prime_ring q) y) positive)

-- the powers of the root are the domain
pub powers-domain : (q : Prime) (n g lent : ℕ) → lent ≡ n → g ≡ (root {q = q} n).word
    → words (tabulate lent (pow (prime_ring q) (of g))) ≡ words (domain {q = q} n)
unfolding domain element
powers-domain q n g lent same e = ap₂ (λ k a. words (tabulate k (pow (prime_ring q) a))) same (of-result (root n) e)

module _ {q : Prime} where
  -- sums over a domain
  pub sum_over_ext : (n : ℕ) (f g : Elem q → Elem q) → ((i : ℕ) → i < n → f (element n i) ≡ g (element n i)) → sum_over n f ≡ sum_over n g
  unfolding sum_over
  sum_over_ext n f g h = sum_ext (prime_ring q) n _ _ h

  pub sum_over-add : (n : ℕ) (f g : Elem q → Elem q) → sum_over n (λ y. f y ⊕ g y) ≡ sum_over n f ⊕ sum_over n g
  unfolding sum_over
  sum_over-add n f g = sum-add (prime_ring q) n (λ i. f (element n i)) (λ i. g (element n i))

  pub sum_over-scale : (n : ℕ) (c : Elem q) (f : Elem q → Elem q) → sum_over n (λ y. c ⊗ f y) ≡ c ⊗ sum_over n f
  unfolding sum_over
  sum_over-scale n c f = sum-scale (prime_ring q) n c (λ i. f (element n i))

  -- the numbers below p stand for distinct elements
  pub of_injective : (i j : ℕ) → i < q.p → j < q.p → of {q = q} i ≡ of j → i ≡ j
  unfolding of
  of_injective i j l k e = sym (mod-eq_of_lt l) ∙ ap (λ (x : Elem q). x.word) e ∙ mod-eq_of_lt k

  pub inside_or_outside : (n : ℕ) (y : Elem q) → (inside n y ≡ true) ⊎ Outside n y
  inside_or_outside n y = go (inside n y) refl
    where
      go : (b : Bool) → inside n y ≡ b → (inside n y ≡ true) ⊎ Outside n y
      go true e = inl e
      go false e = inr e

module _ {q : Prime} (Q : Qualifies q) (n : ℕ) (s : is_size n ≡ true) where
  pub domain_order : Order (prime_ring q) n (root n)
  domain_order = let (k, l, e) = size_is-power n s in rw e (Q.orders k l)

  pub element_injective : (i j : ℕ) → i < n → j < n → element {q = q} n i ≡ element n j → i ≡ j
  unfolding element
  element_injective = powers-distinct (prime_ring q) (no_zero_divisors q) n (root n) domain_order

  pub element-power : (i : ℕ) → pow (prime_ring q) (element n i) n ≡ 𝟙
  unfolding element
  element-power = power-root (prime_ring q) (no_zero_divisors q) n (root n) domain_order

  -- past the last the elements begin again
  pub element-remainder : (i : ℕ) → element {q = q} n (i % n) ≡ element n i
  unfolding element
  element-remainder i =
      sym (mul_one _) ∙ ap (λ y. element n (i % n) ⊗ y) (sym (element-power (i / n)) ∙ sym (pow-mul (prime_ring q) (root n) (i / n) n))
      ∙ sym (pow-add (prime_ring q) (root n) (i % n) (i / n * n)) ∙ ap (pow (prime_ring q) (root n)) (mod-add-div' i n)

  pub element-not-zero : (i : ℕ) → element {q = q} n i ≢ 𝟘
  element-not-zero i e =
      let positive : n ≡ suc (n - 1) = omega (arith, size_positive n s) in
      one_not_zero
      (sym (element-power i) ∙ ap (λ y. pow (prime_ring q) y n) e ∙ ap (pow (prime_ring q) 𝟘) positive ∙ zero-mul (prime_ring q) _)

  pub inside-element : (i : ℕ) → i < n → inside {q = q} n (element n i) ≡ true
  unfolding inside domain
  inside-element i l = tabulate-any n i (element n) (equal (element n i)) l (true-equal (element n i) (element n i) refl)

  pub inside-is-element : (y : Elem q) → inside n y ≡ true → (i : ℕ) × (i < n) × (y ≡ element n i)
  unfolding inside domain
  inside-is-element y h = let (i, l, e) = any-tabulate n (element n) (equal y) h in (i, l, equal-true y (element n i) e)

  -- the elements are the points at which v_D is 0
  pub vanishing-inside : (y : Elem q) → inside n y ≡ true → vanishing n y ≡ 𝟘
  unfolding vanishing
  vanishing-inside y h =
      let (i, l, e) = inside-is-element y h in
      eq→sub_zero (prime_ring q) _ 𝟙 (ap (λ x. pow (prime_ring q) x n) e ∙ element-power i)

  pub inside-vanishing : (y : Elem q) → vanishing n y ≡ 𝟘 → inside n y ≡ true
  unfolding vanishing element
  inside-vanishing y h = let (i, l, e) = found in ap (inside n) e ∙ inside-element i l
    where
      found : (i : ℕ) × (i < n) × (y ≡ element n i)
      found = root-is-power (prime_ring q) (no_zero_divisors q) n (root n) domain_order (size_positive n s) decide one_not_zero y
          (sub_zero→eq (prime_ring q) _ 𝟙 h)

  pub vanishing-outside : (y : Elem q) → Outside n y → vanishing n y ≢ 𝟘
  vanishing-outside y o h = true≢false (sym (inside-vanishing y h) ∙ o)

  pub outside-vanishing : (y : Elem q) → vanishing n y ≢ 𝟘 → Outside n y
  outside-vanishing y ne = elim (inside_or_outside n y) [ inl h ↦ absurd (ne (vanishing-inside y h)) | inr o ↦ o ]

  pub outside-not-element : (y : Elem q) → Outside n y → (i : ℕ) → i < n → y ⊖ element n i ≢ 𝟘
  outside-not-element y o i l e =
      true≢false (sym (inside-element i l) ∙ ap (inside n) (sym (sub_zero→eq (prime_ring q) y (element n i) e)) ∙ o)

  at_most_inside : AtMost n (λ (y : Elem q). inside n y ≡ true)
  unfolding vanishing_poly
  at_most_inside = at_most_mono (length (vanishing_poly {q = q} n) - 1) n (omega (arith, length-vanishing_poly q n (size_positive n s)))
      (λ y h. eval-vanishing_poly n (size_positive n s) y ∙ vanishing-inside y h)
      (root_bound (prime_ring q) (no_zero_divisors q) (vanishing_poly n) (λ zeros. minus_one zeros.0))
    where
      minus_one : neg (𝟙 {q = q}) ≢ 𝟘
      minus_one e = one_not_zero (sym (neg-neg (prime_ring q) 𝟙) ∙ ap neg e ∙ neg-zero (prime_ring q))

  -- more than d points are outside, where p is large enough
  pub outside_many : (d : ℕ) → d + n < q.p → MoreThan d (Outside {q = q} n)
  outside_many d l = more_than_rest n d (tabulate (suc (d + n)) of)
      (distinct-tabulate (suc (d + n)) of (λ i j k m. of_injective i j (omega arith) (omega arith)))
      (all_of (inside_or_outside n) (tabulate (suc (d + n)) of)) at_most_inside
      (omega (arith, length-tabulate (suc (d + n)) (of {q = q})))

-- the domain of size m lies in that of size n
module _ {q : Prime} (Q : Qualifies q) (m n : ℕ) (s : is_size m ≡ true) (t : is_size n ≡ true) (m≤n : m ≤ n) where
  root-power : root {q = q} m ≡ pow (prime_ring q) (root n) (n / m)
  unfolding root
  root-power =
      power-is-pow g ((q.p - 1) / m) ∙ ap (pow (prime_ring q) g) (div-eq_of_eq-mul_right (size_positive m s) order)
      ∙ pow-mul (prime_ring q) g c (n / m) ∙ ap (λ x. pow (prime_ring q) x (n / m)) (sym (power-is-pow g c))
    where
      g : Elem q
      g = of q.generator

      c : ℕ
      c = (q.p - 1) / n

      order : q.p - 1 ≡ m * (c * (n / m))
      order =
          size_divides_order Q n t ∙ ap (λ x. x * c) (size_divides m n s t m≤n) ∙ mul_assoc m (n / m) c ∙ ap (λ x. m * x) (mul_comm (n / m) c)

  pub subgroup_element : (i : ℕ) → element {q = q} m i ≡ element n (i * (n / m))
  unfolding element
  subgroup_element i = ap (λ x. pow (prime_ring q) x i) root-power ∙ sym (pow-mul (prime_ring q) (root n) (n / m) i)
      ∙ ap (pow (prime_ring q) (root n)) (mul_comm (n / m) i)

  pub outside_subgroup : (y : Elem q) → Outside n y → Outside m y
  outside_subgroup y o = outside-vanishing Q m s y (λ h. vanishing-outside Q n t y o (multiple h))
    where
      -- y^n = (y^m)^(n/m)
      multiple : vanishing m y ≡ 𝟘 → vanishing n y ≡ 𝟘
      multiple h = unfold vanishing in eq→sub_zero (prime_ring q) _ 𝟙
          (ap (pow (prime_ring q) y) (size_divides m n s t m≤n) ∙ pow-mul (prime_ring q) y m (n / m)
          ∙ ap (λ x. pow (prime_ring q) x (n / m)) (sub_zero→eq (prime_ring q) _ 𝟙 h) ∙ one_pow (prime_ring q) (n / m))
