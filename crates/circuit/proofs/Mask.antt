-- The sum of a mask over C: a polynomial of length 2n adds up to n·(f_0 + f_n) over the domain of size n. Assumes nothing.
use mathlib.Core.Path.{◌≡◌, sym, ap, ap₂, ◌∙◌}
use mathlib.Core.Bool.{true}
use mathlib.Core.List.{List, map}
use Prim.Native.Nat.{ℕ, ◌+◌, ◌*◌, ◌<◌}
use native.Mathlib.Omega.{arith}
use lib.Dec.{eqb}
use lib.ListN.{length, get_or, length-map}
use borrow.Author.Tests.{eqb-true, eq-eqb}
use Rattle.algebra.proofs.RingLaws.{mul-zero}
use Rattle.field.specs.Prime.{Prime}
use Rattle.field.specs.Element.{Elem, of, 𝟘, ◌⊕◌, ◌⊗◌, equal}
use Rattle.field.proofs.ElementLaws.{prime_ring}
use Rattle.field.proofs.Field.{equal-true, true-equal, no_zero_divisors}
use Rattle.domain.specs.Size.{is_size}
use Rattle.domain.specs.Domain.{sum_over}
use Rattle.domain.specs.Polynomial.{Poly, eval}
use Rattle.domain.specs.Qualifies.{Qualifies}
use Rattle.domain.proofs.SizeLaws.{size_positive, size_not-zero}
use Rattle.domain.proofs.ListLaws.{same_test}
use Rattle.domain.proofs.Division.{sum-of-remainder}
use Rattle.domain.proofs.Membership.{zero_word, word-zero}
use Rattle.poly.proofs.Coefficients.{short-remainder-at}
use Rattle.poly.proofs.WordLists.{element-at}

module _ {q : Prime} (Q : Qualifies q) (n : ℕ) (s : is_size n ≡ true) where
  pub sum-of_double : (f : Poly q) → length f ≡ 2 * n → sum_over n (eval f) ≡ of n ⊗ (get_or f 0 𝟘 ⊕ get_or f n 𝟘)
  sum-of_double f e =
      let positive : 0 < n = size_positive n s in
      let end : n + 0 ≡ n = omega arith in
      sum-of-remainder Q n s f
      ∙ ap (λ x. of n ⊗ x)
      (short-remainder-at (prime_ring q) n positive f (omega arith) 0 positive ∙ ap (λ (i : ℕ). get_or f 0 𝟘 ⊕ get_or f i 𝟘) end)

  -- the mask's test, from the word r of m_0 + m_n
  pub mask_test : (m : List ℕ) → length m ≡ 2 * n → (r : ℕ) → r ≡ (of {q = q} (get_or m 0 0) ⊕ of (get_or m n 0)).word
      → equal (sum_over n (eval (map (of {q = q}) m))) 𝟘 ≡ eqb r 0
  mask_test m e r made =
      let x : Elem q = get_or (map of m) 0 𝟘 ⊕ get_or (map of m) n 𝟘 in
      let sum : sum_over n (eval (map of m)) ≡ of n ⊗ x = sum-of_double (map of m) (length-map m of ∙ e) in
      let word : r ≡ x.word = made ∙ ap₂ (λ (a b : Elem q). (a ⊕ b).word) (element-at m 0) (element-at m n) in
      same_test _ _
      (λ h.
      let zero : x ≡ 𝟘 = no_zero_divisors q (of n) x (sym sum ∙ equal-true _ 𝟘 h) (size_not-zero n s) in
      eq-eqb r 0 (word ∙ ap (λ (a : Elem q). a.word) zero ∙ zero_word q))
      (λ h. true-equal _ 𝟘 (sum ∙ ap (λ y. of n ⊗ y) (word-zero x (sym word ∙ eqb-true r 0 h)) ∙ mul-zero (prime_ring q) (of n)))
