-- Division by v_D = Y^n - 1 for a domain D of n elements: quotient and remainder by values, the univariate sumcheck lemma,
-- polynomials that are 0 on D, uniqueness, and the quotient v_E / v_D for a larger domain E. Assumes nothing.
use mathlib.Core.Path.{◌≡◌, refl, sym, ap, ap₂, ◌∙◌}
use mathlib.Core.Logic.{◌≢◌}
use mathlib.Core.Bool.{true}
use mathlib.Core.List.{[], ◌∷◌}
use Prim.Native.Nat.{ℕ, zero, suc, ◌+◌, ◌-◌, ◌*◌, ◌/◌, ◌≤◌, ◌<◌}
use lib.ListN.{length, get_or, drop, drop_of_length-le}
use native.Mathlib.Omega.{arith}
use native.Mathlib.Nat.{zero-add, suc-add, mul-zero, mul-suc, div-le_self}
use Rattle.algebra.specs.Counting.{MoreThan}
use Rattle.algebra.specs.Ring.{pow}
use Rattle.algebra.specs.Sum.{sum}
use Rattle.algebra.specs.Polynomial as Coefficients
use Rattle.algebra.proofs.RingLaws.{sub_zero→eq, eq→sub_zero, pow-mul, one_pow}
use Rattle.algebra.proofs.SumLaws.{sum_ext, sum_const, geometric}
use Rattle.algebra.proofs.PolynomialLaws.{eval_add}
use Rattle.algebra.proofs.Counting.{all_map}
use Rattle.algebra.proofs.Division.{division, length-quotient, length-remainder}
use Rattle.algebra.proofs.Unity
use Rattle.field.specs.Prime.{Prime}
use Rattle.field.specs.Element.{Elem, of, 𝟘, 𝟙, ◌⊕◌, ◌⊗◌, ◌⊖◌}
use Rattle.field.proofs.ElementLaws.{add_comm, mul_comm, mul_one, prime_ring}
use Rattle.field.proofs.Field.{no_zero_divisors, cast-is-of}
use Rattle.domain.specs.Size.{is_size}
use Rattle.domain.specs.Domain.{root, element, inside, Outside, vanishing, sum_over}
use Rattle.domain.specs.Polynomial.{Poly, eval, ◌⊞◌, quotient, remainder, vanishing_poly}
use Rattle.domain.specs.Qualifies.{Qualifies}
use Rattle.domain.proofs.SizeLaws.{size_positive, size_divides, size_quotient_positive}
use Rattle.domain.proofs.DomainLaws.{monomial, length_monomial, eval_monomial, length-vanishing_poly}
use Rattle.domain.proofs.DomainLaws.{domain_order, vanishing-inside, vanishing-outside}

pub divide : {q : Prime} (n : ℕ) → 0 < n → (f : Poly q) (y : Elem q)
    → eval f y ≡ eval (quotient n f) y ⊗ vanishing n y ⊕ eval (remainder n f) y
unfolding vanishing
divide {q} n pos f y = division (prime_ring q) n f y pos

module _ {q : Prime} (Q : Qualifies q) (n : ℕ) (s : is_size n ≡ true) where
  -- the univariate sumcheck lemma
  pub sum-of-remainder : (f : Poly q) → sum_over n (eval f) ≡ of n ⊗ get_or (remainder n f) 0 𝟘
  unfolding sum_over element
  sum-of-remainder f = Unity.sum-remainder (prime_ring q) (no_zero_divisors q) n (root n) (domain_order Q n s) (size_positive n s) f
      ∙ ap (λ c. c ⊗ get_or (remainder n f) 0 𝟘) (cast-is-of n)

  -- a polynomial that is 0 on the domain is a multiple of v_D
  pub vanishing_divides : (f : Poly q) → ((i : ℕ) → i < n → eval f (element n i) ≡ 𝟘)
      → (y : Elem q) → eval f y ≡ eval (quotient n f) y ⊗ vanishing n y
  unfolding vanishing element
  vanishing_divides f = Unity.vanishing_divides (prime_ring q) (no_zero_divisors q) n (root n) (domain_order Q n s) (size_positive n s) f

  -- f · v_D + r and f' · v_D + r' agree at enough points outside the domain: f is f' and r is r'
  pub division_unique : (f f' r r' : Poly q) → length f ≡ length f' → length r ≡ length r' → length r ≤ n → (d : ℕ) → length f + n ≤ suc d
      → MoreThan d (λ y. Outside n y × (eval f y ⊗ vanishing n y ⊕ eval r y ≡ eval f' y ⊗ vanishing n y ⊕ eval r' y))
      → (f ≡ f') × (r ≡ r')
  unfolding vanishing
  division_unique f f' r r' same-f same-r short d enough (l, distinct, agree, more) =
      Unity.division_unique (prime_ring q) (no_zero_divisors q) n (root n) (domain_order Q n s) f f' r r' l same-f same-r short distinct
      (omega arith) (all_map (λ y h. not_one y h.0) l agree) (all_map (λ y h. h.1) l agree)
    where
      not_one : (y : Elem q) → Outside n y → pow (prime_ring q) y n ≢ 𝟙
      not_one y o e = vanishing-outside Q n s y o (eq→sub_zero (prime_ring q) _ 𝟙 e)

module _ {q : Prime} where
  -- v_E / v_D, for D of m and E of n elements
  abbrev pub vanishing_ratio : (m n : ℕ) → Poly q
  vanishing_ratio m n = quotient m (vanishing_poly n)

  abbrev quotient_in : ℕ → ℕ → Poly q → Poly q
  quotient_in = Coefficients.quotient_in (prime_ring q)

  drop_monomial : (m k : ℕ) → drop m (monomial {q = q} (m + k)) ≡ monomial k
  drop_monomial zero k = ap monomial (zero-add k)
  drop_monomial (suc m) k = rw suc-add (drop_monomial m k)

  quotient_in_nil : (turns m : ℕ) → quotient_in turns m [] ≡ []
  quotient_in_nil zero m = refl
  quotient_in_nil (suc turns) m = rw (drop_of_length-le {A = Elem q} [] {i = m} (omega arith)) (quotient_in_nil turns m)

  -- 1 + y^m + y^(2m) + .., k terms
  powers : ℕ → Elem q → ℕ → Elem q
  powers m y k = sum (prime_ring q) k (pow (prime_ring q) (pow (prime_ring q) y m))

  quotient_in_step : (m turns k : ℕ) (f : Poly q) (y : Elem q) → drop m f ≡ monomial (m * k)
      → eval (quotient_in turns m (monomial (m * k))) y ≡ powers m y k → eval (quotient_in (suc turns) m f) y ≡ powers m y (suc k)
  unfolding powers
  quotient_in_step m turns k f y e rec =
      ap (λ g. eval (g ⊞ quotient_in turns m g) y) e ∙ eval_add (prime_ring q) (monomial (m * k)) (quotient_in turns m (monomial (m * k))) y
      ∙ ap₂ ◌⊕◌ (eval_monomial (m * k) y ∙ pow-mul (prime_ring q) y m k) rec ∙ add_comm _ _

  -- Y^(mk) divided by Y^m - 1
  quotient_in_monomial : (m turns k : ℕ) (y : Elem q) → 0 < m → k ≤ turns → eval (quotient_in turns m (monomial (m * k))) y ≡ powers m y k
  unfolding powers
  quotient_in_monomial m zero zero y pos le = refl
  quotient_in_monomial m zero (suc k) y pos le = absurd (omega arith)
  quotient_in_monomial m (suc turns) zero y pos le =
      ap (λ g. eval (g ⊞ quotient_in turns m g) y) (ap (λ k. drop m (monomial k)) (mul-zero m) ∙ drop_of_length-le (𝟙 ∷ []) pos)
      ∙ ap (λ g. eval g y) (quotient_in_nil turns m)
  quotient_in_monomial m (suc turns) (suc k) y pos le =
      let e : m * suc k ≡ m + m * k = omega (arith, mul-suc m k) in
      quotient_in_step m turns k (monomial (m * suc k)) y (ap (λ k. drop m (monomial k)) e ∙ drop_monomial m (m * k))
      (quotient_in_monomial m turns k y pos (omega arith))

  drop-vanishing_poly : (m k n : ℕ) → 0 < m → n ≡ m * suc k → drop m (vanishing_poly {q = q} n) ≡ monomial (m * k)
  unfolding vanishing_poly
  drop-vanishing_poly zero k n pos e = absurd (omega arith)
  drop-vanishing_poly (suc m) k n pos e =
      let d : n - 1 ≡ m + suc m * k = omega (arith, mul-suc (suc m) k) in
      ap (λ j. drop m (monomial j)) d ∙ drop_monomial m (suc m * k)

pub length_vanishing_ratio : (q : Prime) (m n : ℕ) → is_size m ≡ true → is_size n ≡ true → m ≤ n → length (vanishing_ratio {q = q} m n) ≡ n - m + 1
length_vanishing_ratio q m n s t m≤n =
    omega (arith, length-quotient (prime_ring q) m (vanishing_poly n) (size_positive m s), length-vanishing_poly q n (size_positive n t))

module _ {q : Prime} (m n : ℕ) (s : is_size m ≡ true) (t : is_size n ≡ true) (m≤n : m ≤ n) where
  ratio-powers : (y : Elem q) → eval (vanishing_ratio m n) y ≡ powers m y (n / m)
  unfolding vanishing_poly
  ratio-powers y =
      quotient_in_step m (length (monomial (n - 1))) k (vanishing_poly n) y
      (drop-vanishing_poly m k n (size_positive m s) (size_divides m n s t m≤n ∙ ap (λ j. m * j) (sym positive)))
      (quotient_in_monomial m (length (monomial (n - 1))) k y (size_positive m s) enough)
      ∙ ap (powers m y) positive
    where
      k : ℕ
      k = n / m - 1

      positive : suc k ≡ n / m
      positive = omega (arith, size_quotient_positive m n s t m≤n)

      enough : k ≤ length (monomial {q = q} (n - 1))
      enough = omega (arith, div-le_self n m, length_monomial q (n - 1))

  pub eval_vanishing_ratio : (y : Elem q) → eval (vanishing_ratio m n) y ⊗ vanishing m y ≡ vanishing n y
  unfolding powers vanishing
  eval_vanishing_ratio y = ap (λ v. v ⊗ vanishing m y) (ratio-powers y) ∙ mul_comm _ _ ∙ geometric (prime_ring q) (n / m) (pow (prime_ring q) y m)
      ∙ ap (λ v. v ⊖ 𝟙) (sym (pow-mul (prime_ring q) y m (n / m)) ∙ ap (pow (prime_ring q) y) (sym (size_divides m n s t m≤n)))

module _ {q : Prime} (Q : Qualifies q) (m n : ℕ) (s : is_size m ≡ true) (t : is_size n ≡ true) (m≤n : m ≤ n) where
  -- n/m on D, and 0 on the rest of E
  pub vanishing_ratio_inside : (y : Elem q) → inside m y ≡ true → eval (vanishing_ratio m n) y ≡ of (n / m)
  unfolding powers vanishing
  vanishing_ratio_inside y h = ratio-powers m n s t m≤n y ∙ sum_ext (prime_ring q) (n / m) _ (λ k. 𝟙) one
      ∙ sum_const (prime_ring q) (n / m) 𝟙 ∙ mul_one _ ∙ cast-is-of (n / m)
    where
      one : (k : ℕ) → k < n / m → pow (prime_ring q) (pow (prime_ring q) y m) k ≡ 𝟙
      one k l = ap (λ x. pow (prime_ring q) x k) (sub_zero→eq (prime_ring q) _ 𝟙 (vanishing-inside Q m s y h)) ∙ one_pow (prime_ring q) k

-- where h · v_D + r agrees with f at enough points outside the domain, h and r are the quotient and the remainder of f
pub division_recovers :
    {q : Prime} (Q : Qualifies q) (n : ℕ) → is_size n ≡ true → (f h r : Poly q) → n ≤ length f → length h ≡ length f - n → length r ≡ n
    → (d : ℕ) → length f ≤ suc d → MoreThan d (λ y. Outside n y × (eval f y ≡ eval h y ⊗ vanishing n y ⊕ eval r y))
    → (quotient n f ≡ h) × (remainder n f ≡ r)
division_recovers {q} Q n s f h r long h-length r-length d short (l, distinct, agree, more) =
    let quotient-length : length (quotient n f) ≡ length f - n = length-quotient (prime_ring q) n f (size_positive n s) in
    let remainder-length : length (remainder n f) ≡ n = length-remainder (prime_ring q) n f in
    division_unique Q n s (quotient n f) h (remainder n f) r (quotient-length ∙ sym h-length) (remainder-length ∙ sym r-length) (omega arith) d
    (omega arith) (l, distinct, all_map (λ y e. (e.0, sym (divide n (size_positive n s) f y) ∙ e.1)) l agree, more)
