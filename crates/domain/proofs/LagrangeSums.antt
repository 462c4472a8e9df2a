-- The value of the interpolated polynomial at any point: the sum of the values on the domain, each times its Lagrange value there.
-- Assumes nothing.
use mathlib.Core.Path.{◌≡◌, refl, sym, ap, ap₂, ◌∙◌}
use mathlib.Core.Bool.{true}
use mathlib.Core.List.{List, map}
use Prim.Native.Nat.{ℕ, zero, suc, ◌+◌, ◌<◌}
use native.Mathlib.Omega.{arith}
use native.Mathlib.Numerals.{add-one}
use lib.ListN.{length, get_or, replicate, length-replicate, get_or-map}
use borrow.Author.Tests.{eq-eqb, ne_eqb}
use Rattle.algebra.specs.Lists.{tabulate}
use Rattle.algebra.specs.Sum.{sum}
use Rattle.algebra.proofs.Choice.{pick_true, pick-false}
use Rattle.algebra.proofs.PolynomialLaws.{eval-replicate-zero}
use Rattle.algebra.proofs.RingLaws.{mul-zero}
use Rattle.algebra.proofs.SumLaws.{sum_one}
use Rattle.field.specs.Prime.{Prime}
use Rattle.field.specs.Element.{Elem, of, 𝟘, 𝟙, ◌⊕◌, ◌⊗◌, words}
use Rattle.field.proofs.ElementLaws.{prime_ring, add_comm, mul_one}
use Rattle.field.proofs.Words.{of-result}
use Rattle.domain.specs.Size.{is_size}
use Rattle.domain.specs.Domain.{element, lagrange}
use Rattle.domain.specs.Polynomial.{eval, interpolate}
use Rattle.domain.specs.Qualifies.{Qualifies}
use Rattle.domain.proofs.Interpolation.{IsPolynomial, polynomial_scale, polynomial_add, interpolate-unique}
use Rattle.domain.proofs.Lagrange.{lagrange_on, lagrange_polynomial}
use Rattle.domain.proofs.Fill.{length_rule_words, rule_word-at}

-- a sum of polynomials is one
polynomial_sum : {q : Prime} (n k : ℕ) (F : ℕ → Elem q → Elem q) → ((i : ℕ) → i < k → IsPolynomial n (F i))
    → IsPolynomial n (λ y. sum (prime_ring q) k (λ i. F i y))
polynomial_sum {q} n zero F h =
    record { poly = replicate n 𝟘; poly_length = length-replicate n 𝟘; poly_value = eval-replicate-zero (prime_ring q) n }
polynomial_sum n (suc k) F h = polynomial_add (polynomial_sum n k F (λ i l. h i (omega arith))) (h k (omega arith))

-- value i times its Lagrange value at y
abbrev pub term : {q : Prime} → ℕ → List (Elem q) → Elem q → ℕ → Elem q
term n vs y i = get_or vs i 𝟘 ⊗ lagrange n (element n i) y

module _ {q : Prime} (Q : Qualifies q) (n : ℕ) (s : is_size n ≡ true) (vs : List (Elem q)) where
  polynomial_terms : IsPolynomial {q = q} n (λ y. sum (prime_ring q) n (term n vs y))
  polynomial_terms = polynomial_sum n n (λ i y. term n vs y i) (λ i l. polynomial_scale (get_or vs i 𝟘) (lagrange_polynomial Q n s i l))

  terms_on : (j : ℕ) → j < n → sum (prime_ring q) n (term n vs (element n j)) ≡ get_or vs j 𝟘
  terms_on j l =
      sum_one (prime_ring q) n j (term n vs (element n j)) l
      (λ i k d. ap (λ v. get_or vs i 𝟘 ⊗ v) (lagrange_on Q n s i j k l ∙ pick-false 𝟙 𝟘 (ne_eqb i j d)) ∙ mul-zero (prime_ring q) (get_or vs i 𝟘))
      ∙ ap (λ v. get_or vs j 𝟘 ⊗ v) (lagrange_on Q n s j j l l ∙ pick_true 𝟙 𝟘 (eq-eqb j j refl)) ∙ mul_one (get_or vs j 𝟘)

  pub interpolate-sum : (y : Elem q) → sum (prime_ring q) n (term n vs y) ≡ eval (interpolate n vs) y
  interpolate-sum y =
      let P : IsPolynomial n (λ y. sum (prime_ring q) n (term n vs y)) = polynomial_terms in
      sym (P.poly_value y)
      ∙ ap (λ f. eval f y) (interpolate-unique Q n s P.poly vs P.poly_length (λ i l. P.poly_value (element n i) ∙ terms_on i l))

-- the sum from place to place, where the words ls are the Lagrange values
module _ {q : Prime} (n : ℕ) (y : Elem q) (ws ls : List ℕ) (made : ls ≡ words (tabulate n (λ i. lagrange n (element n i) y))) where
  pub made_length : length ls ≡ n
  made_length = ap length made ∙ length_rule_words n (λ i. lagrange n (element n i) y)

  pub next_term : (i sofar r : ℕ) → i < length ls → r ≡ (of {q = q} (get_or ws i 0) ⊗ of (get_or ls i 0) ⊕ of sofar).word
      → sofar ≡ (sum (prime_ring q) i (term n (map of ws) y)).word → r ≡ (sum (prime_ring q) (i + 1) (term n (map of ws) y)).word
  next_term i sofar r below e so_far =
      let f : ℕ → Elem q = term n (map of ws) y in
      let before : Elem q = sum (prime_ring q) i f in
      let weight : get_or ls i 0 ≡ (lagrange n (element n i) y).word =
      ap (λ (l : List ℕ). get_or l i 0) made ∙ rule_word-at n (λ i. lagrange n (element n i) y) i (omega (arith, made_length)) in
      let product : of {q = q} (get_or ws i 0) ⊗ of (get_or ls i 0) ≡ f i =
      ap₂ ◌⊗◌ (sym (get_or-map of ws i 0)) (of-result (lagrange n (element n i) y) weight) in
      e
      ∙ ap (λ (x : Elem q). x.word)
      (ap₂ ◌⊕◌ product (of-result before so_far) ∙ add_comm (f i) before ∙ ap (λ (k : ℕ). sum (prime_ring q) k f) (sym (add-one i)))
