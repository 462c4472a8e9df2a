-- The Lagrange value L_a(y) of a domain: 1 at a and 0 at the other elements, a·v_D(y) / (n(y - a)) off the domain, where it is not 0, and
-- everywhere the value of one polynomial of length n. Assumes nothing.
use mathlib.Core.Path.{◌≡◌, refl, sym, ap, ◌∙◌}
use mathlib.Core.Logic.{◌≢◌, inl, inr}
use mathlib.Core.Bool.{Bool, true, false}
use mathlib.Core.List.{[], ◌∷◌}
use Prim.Native.Nat.{ℕ, ◌+◌, ◌-◌, ◌<◌}
use lib.Dec.{eqb}
use borrow.Author.Tests.{eqb-true, eqb-false}
use native.Mathlib.Omega.{arith}
use Rattle.algebra.specs.Lists.{pick, tabulate}
use Rattle.algebra.specs.Ring.{pow}
use Rattle.algebra.specs.Sum.{sum}
use Rattle.algebra.proofs.RingLaws.{mul-zero, zero-mul, one_pow, mul-pow, pow-add, sub_zero→eq}
use Rattle.algebra.proofs.FieldLaws.{mul-not-zero}
use Rattle.algebra.proofs.Solver.{◌:-◌, ◌:*◌, :-◌, :0, :1, ◌:=◌, ◌⊙◌, ◌from◌, ring_by}
use Rattle.algebra.proofs.SumLaws.{sum_ext, sum-scale, sum_const, geometric}
use Rattle.algebra.proofs.PolynomialLaws.{eval-tabulate, length-tabulate}
use Rattle.field.specs.Prime.{Prime}
use Rattle.field.specs.Element.{Elem, of, 𝟘, 𝟙, ◌⊗◌, ◌⊖◌, equal}
use Rattle.field.specs.Power.{reciprocal, ◌⊘◌}
use Rattle.field.proofs.ElementLaws.{prime_ring, mul_comm, mul_one}
use Rattle.field.proofs.Field.{prime_field, no_zero_divisors, mul-reciprocal, cast-is-of, equal-true, equal-false, true-equal, false-equal}
use Rattle.domain.specs.Size.{is_size}
use Rattle.domain.specs.Domain.{root, element, inside, Outside, vanishing, lagrange}
use Rattle.domain.specs.Polynomial.{Poly, eval}
use Rattle.domain.specs.Qualifies.{Qualifies}
use Rattle.domain.proofs.SizeLaws.{size_not-zero}
use Rattle.domain.proofs.DomainLaws.{domain_order, element_injective, element-power, element-not-zero, inside-element}
use Rattle.domain.proofs.DomainLaws.{inside_or_outside, vanishing-inside, vanishing-outside}
use Rattle.domain.proofs.Divisors.{lagrange_divisor_lem}
use Rattle.domain.proofs.Interpolation.{IsPolynomial}

pub lagrange_off : {q : Prime} (n : ℕ) (a y : Elem q) → Outside n y → lagrange n a y ≡ a ⊗ vanishing n y ⊘ (of n ⊗ (y ⊖ a))
unfolding lagrange pick
lagrange_off n a y o = rw o refl

lagrange-inside : {q : Prime} (n : ℕ) (a y : Elem q) → inside n y ≡ true → lagrange n a y ≡ pick (equal y a) 𝟙 𝟘
unfolding lagrange pick
lagrange-inside n a y h = rw h refl

module _ {q : Prime} (Q : Qualifies q) (n : ℕ) (s : is_size n ≡ true) where
  pub lagrange_on : (i j : ℕ) → i < n → j < n → lagrange {q = q} n (element n i) (element n j) ≡ pick (eqb i j) 𝟙 𝟘
  lagrange_on i j i<n j<n = lagrange-inside n (element n i) (element n j) (inside-element Q n s j j<n)
      ∙ ap (λ b. pick b 𝟙 𝟘) (same (eqb i j) refl)
    where
      same : (b : Bool) → eqb i j ≡ b → equal (element {q = q} n j) (element n i) ≡ b
      same true e = true-equal (element n j) (element n i) (ap (element n) (sym (eqb-true i j e)))
      same false e = false-equal (element n j) (element n i) (λ d. eqb-false i j e (sym (element_injective Q n s j i j<n i<n d)))

  -- for a = element i, with reciprocal b
  module _ (i : ℕ) (i<n : i < n) where
    abbrev a : Elem q
    a = element n i

    abbrev b : Elem q
    b = element n (n - i)

    inverses : a ⊗ b ≡ 𝟙
    unfolding element
    inverses =
        let e : i + (n - i) ≡ n = omega arith in
        sym (pow-add (prime_ring q) (root n) i (n - i)) ∙ ap (pow (prime_ring q) (root n)) e ∙ (domain_order Q n s).full

    -- 1 + by + .. + (by)^(n-1)
    powers : Elem q → Elem q
    powers y = sum (prime_ring q) n (pow (prime_ring q) (b ⊗ y))

    -- (y - a) (1 + by + .. + (by)^(n-1)) = a (y^n - 1)
    powers-vanishing : (y : Elem q) → (y ⊖ a) ⊗ powers y ≡ a ⊗ vanishing n y
    unfolding powers vanishing
    powers-vanishing y =
        ring_by (prime_ring q)
        (y ∷ a ∷ b ∷ powers y ∷ pow (prime_ring q) y n ∷ pow (prime_ring q) b n ∷ pow (prime_ring q) (b ⊗ y) n ∷ [])
        (λ y a b s u v w. (y :- a) :* s := a :* (u :- :1) from
        (a ⊙ ((b :* y :- :1) :* s := w :- :1)) ∷ ((:- (y :* s)) ⊙ (a :* b := :1)) ∷ (a ⊙ (w := v :* u)) ∷ ((a :* u) ⊙ (v := :1)) ∷ [])
        (geometric (prime_ring q) n (b ⊗ y), (inverses, (mul-pow (prime_ring q) b y n, (element-power Q n s (n - i), tt)))) tt

    powers-at : powers a ≡ of n
    unfolding powers
    powers-at = sum_ext (prime_ring q) n _ (λ k. 𝟙) (λ k l. ap (λ x. pow (prime_ring q) x k) (mul_comm b a ∙ inverses) ∙ one_pow (prime_ring q) k)
        ∙ sum_const (prime_ring q) n 𝟙 ∙ mul_one _ ∙ cast-is-of n

    -- L_a has the coefficients b^k / n
    coefficients : Poly q
    coefficients = tabulate n (λ k. pow (prime_ring q) b k ⊘ of n)

    eval_coefficients : (y : Elem q) → eval coefficients y ≡ powers y ⊘ of n
    unfolding coefficients powers
    eval_coefficients y = eval-tabulate (prime_ring q) n (λ k. pow (prime_ring q) b k ⊘ of n) y
        ∙ sum_ext (prime_ring q) n _ _ step ∙ sum-scale (prime_ring q) n (reciprocal (of n)) (pow (prime_ring q) (b ⊗ y)) ∙ mul_comm _ _
      where
        step : (k : ℕ) → k < n → pow (prime_ring q) b k ⊘ of n ⊗ pow (prime_ring q) y k ≡ reciprocal (of n) ⊗ pow (prime_ring q) (b ⊗ y) k
        step k l = ring_by (prime_ring q)
            (pow (prime_ring q) b k ∷ pow (prime_ring q) y k ∷ pow (prime_ring q) (b ⊗ y) k ∷ reciprocal (of n) ∷ [])
            (λ u v w m. u :* m :* v := m :* w from ((:- m) ⊙ (w := u :* v)) ∷ []) (mul-pow (prime_ring q) b y k, tt) tt

    -- L_a is not 0 off the domain
    pub lagrange-not-zero : (y : Elem q) → Outside n y → lagrange n (element n i) y ≢ 𝟘
    lagrange-not-zero y o e =
        let d : Elem q = of n ⊗ (y ⊖ a) in
        mul-not-zero (prime_ring q) (prime_field q) a (vanishing n y) (element-not-zero Q n s i) (vanishing-outside Q n s y o)
        (ring_by (prime_ring q) (a ∷ vanishing n y ∷ d ∷ reciprocal d ∷ [])
        (λ a v d r. a :* v := :0 from (d ⊙ (a :* v :* r := :0)) ∷ ((:- (a :* v)) ⊙ (d :* r := :1)) ∷ [])
        (sym (lagrange_off n a y o) ∙ e, (mul-reciprocal d (lagrange_divisor_lem Q n s a y (inside-element Q n s i i<n) o), tt)) tt)

    value-outside : (y : Elem q) → Outside n y → powers y ⊘ of n ≡ a ⊗ vanishing n y ⊘ (of n ⊗ (y ⊖ a))
    value-outside y o =
        ring_by (prime_ring q)
        (y ∷ a ∷ powers y ∷ vanishing n y ∷ of n ∷ reciprocal (of n) ∷ reciprocal (of n ⊗ (y ⊖ a)) ∷ [])
        (λ y a s v m i d. s :* i := a :* v :* d from
        (d ⊙ ((y :- a) :* s := a :* v)) ∷ ((s :* (y :- a) :* d) ⊙ (m :* i := :1)) ∷ ((:- (s :* i)) ⊙ (m :* (y :- a) :* d := :1)) ∷ []) (
          powers-vanishing y,
          (
            mul-reciprocal (of n) (size_not-zero n s),
            (mul-reciprocal (of n ⊗ (y ⊖ a)) (lagrange_divisor_lem Q n s a y (inside-element Q n s i i<n) o), tt),
          ),
        ) tt

    value-inside : (y : Elem q) → inside n y ≡ true → powers y ⊘ of n ≡ pick (equal y a) 𝟙 𝟘
    value-inside y h = go (equal y a) refl
      where
        go : (c : Bool) → equal y a ≡ c → powers y ⊘ of n ≡ pick c 𝟙 𝟘
        go true e = unfold pick in
            ap (λ v. v ⊘ of n) (ap powers (equal-true y a e) ∙ powers-at) ∙ mul-reciprocal (of n) (size_not-zero n s)
        go false e = unfold pick in
            ap (λ v. v ⊘ of n)
            (no_zero_divisors q (y ⊖ a) (powers y) (powers-vanishing y ∙ ap (λ v. a ⊗ v) (vanishing-inside Q n s y h) ∙ mul-zero (prime_ring q) a)
            (λ d. equal-false y a e (sub_zero→eq (prime_ring q) y a d)))
            ∙ zero-mul (prime_ring q) _

    -- L_a(y) = (1 + by + .. + (by)^(n-1)) / n, on the domain and off it
    pub lagrange-powers : (y : Elem q) → lagrange n (element n i) y ≡ sum (prime_ring q) n (pow (prime_ring q) (element n (n - i) ⊗ y)) ⊘ of n
    lagrange-powers y = unfold powers in elim (inside_or_outside n y) [
      | inl h ↦ lagrange-inside n a y h ∙ sym (value-inside y h)
      | inr o ↦ lagrange_off n a y o ∙ sym (value-outside y o)
    ]

    pub lagrange_polynomial : IsPolynomial {q = q} n (lagrange n (element n i))
    lagrange_polynomial = record { poly = coefficients; poly_length = unfold coefficients in length-tabulate n _; poly_value = value }
      where
        value : (y : Elem q) → eval coefficients y ≡ lagrange n a y
        value y = unfold powers in eval_coefficients y ∙ sym (lagrange-powers y)
