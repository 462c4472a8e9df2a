-- Values on a domain of n elements: a polynomial of length n has any given values there, and is the only one that does. So a
-- function that is a polynomial of length n is known by its values on the domain. Assumes nothing.
use mathlib.Core.Path.{◌≡◌, sym, ap, ap₂, ◌∙◌}
use mathlib.Core.Bool.{true}
use mathlib.Core.List.{List, [], ◌∷◌, map}
use Prim.Native.Nat.{ℕ, ◌-◌, ◌*◌, ◌<◌}
use lib.ListN.{length, get_or, replicate, length-map, length-replicate}
use native.Mathlib.Omega.{arith}
use Rattle.algebra.specs.Lists.{tabulate}
use Rattle.algebra.specs.Counting.{All}
use Rattle.algebra.specs.Ring.{CommRing, cast, pow}
use Rattle.algebra.specs.Sum.{sum, sum_list}
use Rattle.algebra.proofs.RingLaws.{pow-mul}
use Rattle.algebra.proofs.Solver.{◌:*◌, :1, ◌:=◌, ◌⊙◌, ◌from◌, ring, ring_by}
use Rattle.algebra.proofs.SumLaws.{sum_ext, sum-scale}
use Rattle.algebra.proofs.PolynomialLaws.{eval_add, eval-scale, eval-replicate-zero, eval-tabulate, eval-sum}
use Rattle.algebra.proofs.PolynomialLaws.{length-add, length-scale, length-tabulate, get_d_tabulate}
use Rattle.algebra.proofs.RootBound.{agree_equal}
use Rattle.algebra.proofs.Counting.{all-tabulate}
use Rattle.algebra.proofs.Unity.{powers-list-distinct, interpolation}
use Rattle.field.specs.Prime.{Prime}
use Rattle.field.specs.Element.{Elem, of, 𝟘, ◌⊕◌, ◌⊗◌}
use Rattle.field.specs.Power.{reciprocal, ◌⊘◌}
use Rattle.field.proofs.ElementLaws.{prime_ring}
use Rattle.field.proofs.Field.{no_zero_divisors, mul-reciprocal, cast-is-of}
use Rattle.domain.specs.Size.{is_size}
use Rattle.domain.specs.Domain.{root, element, domain}
use Rattle.domain.specs.Polynomial.{Poly, eval, ◌⊞◌, ◌·◌, values_on, interpolate, agreeing}
use Rattle.domain.specs.Qualifies.{Qualifies}
use Rattle.domain.proofs.ListLaws.{map-tabulate, equal-entries}
use Rattle.domain.proofs.SizeLaws.{size_not-zero}
use Rattle.domain.proofs.DomainLaws.{domain_order}

module _ {q : Prime} where
  -- the values of a function on the domain
  length-values : (n : ℕ) (F : Elem q → Elem q) → length (map F (domain n)) ≡ n
  unfolding domain
  length-values n F = length-map (domain n) F ∙ length-tabulate n (element n)

  getD_values : (n i : ℕ) (F : Elem q → Elem q) → i < n → get_or (map F (domain n)) i 𝟘 ≡ F (element n i)
  unfolding domain
  getD_values n i F l = ap (λ vs. get_or vs i 𝟘) (map-tabulate F n (element n)) ∙ get_d_tabulate n i (λ i. F (element n i)) 𝟘 l

  pub length-values_on : (n : ℕ) (f : Poly q) → length (values_on n f) ≡ n
  unfolding values_on
  length-values_on n f = length-values n (eval f)

  pub getD_values_on : (n i : ℕ) (f : Poly q) → i < n → get_or (values_on n f) i 𝟘 ≡ eval f (element n i)
  unfolding values_on
  getD_values_on n i f l = getD_values n i (eval f) l

  pub length-interpolate : (n : ℕ) (vs : List (Elem q)) → length (interpolate n vs) ≡ n
  unfolding interpolate
  length-interpolate n vs = length-tabulate n _

  -- coefficient i: the value at g^(n-i) of the polynomial whose coefficients are the given values, divided by n
  pub interpolate-at : (n : ℕ) (vs : List (Elem q)) (i : ℕ) → length vs ≡ n → i < n
      → get_or (interpolate n vs) i 𝟘 ≡ eval vs (element n (n - i)) ⊘ of n
  unfolding interpolate element
  interpolate-at n vs i e below =
      get_d_tabulate n i (λ i. sum (prime_ring q) n (λ j. get_or vs j 𝟘 ⊗ element n ((n - i) * j)) ⊘ of n) 𝟘 below
      ∙ ap (λ (a : Elem q). a ⊘ of n)
      (sum_ext (prime_ring q) n _ _ (λ j l. ap (λ (a : Elem q). get_or vs j 𝟘 ⊗ a) (pow-mul (prime_ring q) (root n) (n - i) j))
      ∙ ap (λ (m : ℕ). sum (prime_ring q) m (λ j. get_or vs j 𝟘 ⊗ pow (prime_ring q) (element n (n - i)) j)) (sym e)
      ∙ sym (eval-sum (prime_ring q) vs (element n (n - i))))

  pub length-agreeing : (n : ℕ) (F : Elem q → Elem q) → length (agreeing n F) ≡ n
  unfolding agreeing
  length-agreeing n F = length-interpolate n (map F (domain n))

-- the function F is a polynomial of length n
pub record IsPolynomial {q : Prime} (n : ℕ) (F : Elem q → Elem q) : Type 0 where
  pub poly : Poly q
  pub poly_length : length poly ≡ n
  pub poly_value : (y : Elem q) → eval poly y ≡ F y

module _ {q : Prime} {n : ℕ} where
  pub polynomial_scale : (c : Elem q) {F : Elem q → Elem q} → IsPolynomial n F → IsPolynomial n (λ y. c ⊗ F y)
  polynomial_scale c P = record {
    poly = c · P.poly;
    poly_length = length-scale (prime_ring q) c P.poly ∙ P.poly_length;
    poly_value = λ y. eval-scale (prime_ring q) c P.poly y ∙ ap (λ v. c ⊗ v) (P.poly_value y);
  }

  pub polynomial_add : {F G : Elem q → Elem q} → IsPolynomial n F → IsPolynomial n G → IsPolynomial n (λ y. F y ⊕ G y)
  polynomial_add P S = record {
    poly = P.poly ⊞ S.poly;
    poly_length = omega (arith, length-add (prime_ring q) P.poly S.poly, P.poly_length, S.poly_length);
    poly_value = λ y. eval_add (prime_ring q) P.poly S.poly y ∙ ap₂ ◌⊕◌ (P.poly_value y) (S.poly_value y);
  }

  -- a sum over a list, where each member gives a polynomial
  pub polynomial_sum_list : {T : Type 0} (F : T → Elem q → Elem q) (l : List T) → All (λ x. IsPolynomial n (F x)) l
      → IsPolynomial n (λ y. sum_list (prime_ring q) (λ x. F x y) l)
  polynomial_sum_list F [] h = record {
    poly = replicate n 𝟘;
    poly_length = length-replicate n 𝟘;
    poly_value = eval-replicate-zero (prime_ring q) n;
  }
  polynomial_sum_list F (x ∷ l) h = polynomial_add h.0 (polynomial_sum_list F l h.1)

module _ {q : Prime} (Q : Qualifies q) (n : ℕ) (s : is_size n ≡ true) where
  pub eval-interpolate : (vs : List (Elem q)) (i : ℕ) → i < n → eval (interpolate n vs) (element n i) ≡ get_or vs i 𝟘
  unfolding interpolate element
  eval-interpolate vs k k<n =
      eval-tabulate R n (λ i. coefficient i ⊘ of n) x
      ∙ sum_ext R n _ _ (λ i l. ring R (coefficient i ∷ reciprocal (of n) ∷ pow R x i ∷ []) (λ c v p. c :* v :* p := v :* (c :* p)) tt)
      ∙ sum-scale R n (reciprocal (of n)) (λ i. coefficient i ⊗ pow R x i)
      ∙ ap (λ v. reciprocal (of n) ⊗ v)
      (interpolation R (no_zero_divisors q) n (root n) (domain_order Q n s) (λ j. get_or vs j 𝟘) k k<n)
      ∙ ring_by R (cast R n ∷ of n ∷ reciprocal (of n) ∷ get_or vs k 𝟘 ∷ [])
      (λ c m i v. i :* (c :* v) := v from ((i :* v) ⊙ (c := m)) ∷ (v ⊙ (m :* i := :1)) ∷ [])
      (cast-is-of n, (mul-reciprocal (of n) (size_not-zero n s), tt)) tt
    where
      R : CommRing (Elem q)
      R = prime_ring q

      x : Elem q
      x = element n k

      coefficient : ℕ → Elem q
      coefficient i = sum R n (λ j. get_or vs j 𝟘 ⊗ element n ((n - i) * j))

  -- polynomials of length n with the same values on the domain are equal
  pub equal_on_domain : (f g : Poly q) → length f ≡ n → length g ≡ n → ((i : ℕ) → i < n → eval f (element n i) ≡ eval g (element n i)) → f ≡ g
  unfolding element
  equal_on_domain f g e d h = agree_equal (prime_ring q) (no_zero_divisors q) (tabulate n (element n)) f g
      (omega (arith, length-tabulate n (element {q = q} n))) (e ∙ sym d)
      (powers-list-distinct (prime_ring q) (no_zero_divisors q) n (root n) (domain_order Q n s))
      (all-tabulate _ n (element n) h)

  pub interpolate-unique : (f : Poly q) (vs : List (Elem q)) → length f ≡ n → ((i : ℕ) → i < n → eval f (element n i) ≡ get_or vs i 𝟘)
      → f ≡ interpolate n vs
  interpolate-unique f vs e h = equal_on_domain f (interpolate n vs) e (length-interpolate n vs) (λ i l. h i l ∙ sym (eval-interpolate vs i l))

  -- values on the domain and interpolation undo each other
  pub values-interpolate : (vs : List (Elem q)) → length vs ≡ n → values_on n (interpolate n vs) ≡ vs
  values-interpolate vs e =
      equal-entries 𝟘 _ _ (length-values_on n _ ∙ sym e) (λ i l.
      let below : i < n = omega (arith, length-values_on n (interpolate n vs)) in
      getD_values_on n i (interpolate n vs) below ∙ eval-interpolate vs i below)

  pub interpolate-values : (f : Poly q) → length f ≡ n → interpolate n (values_on n f) ≡ f
  interpolate-values f e = sym (interpolate-unique f (values_on n f) e (λ i l. sym (getD_values_on n i f l)))

  pub eval-agreeing : (F : Elem q → Elem q) (i : ℕ) → i < n → eval (agreeing n F) (element n i) ≡ F (element n i)
  unfolding agreeing
  eval-agreeing F i l = eval-interpolate (map F (domain n)) i l ∙ getD_values n i F l

  -- a polynomial of length n is the one that agrees with it on the domain
  pub agreeing-is : (F : Elem q → Elem q) → IsPolynomial n F → (y : Elem q) → eval (agreeing n F) y ≡ F y
  agreeing-is F P y = ap (λ f. eval f y) same ∙ P.poly_value y
    where
      same : agreeing n F ≡ P.poly
      same = equal_on_domain (agreeing n F) P.poly (length-agreeing n F) P.poly_length
          (λ i l. eval-agreeing F i l ∙ sym (P.poly_value (element n i)))
