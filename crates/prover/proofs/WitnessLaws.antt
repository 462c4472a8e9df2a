-- What the code of the first message rests on: the coefficients of Y^n - 1, the public words of z, sums with a list that is one
-- shorter, and ŵ from its two terms. Assumes nothing.
use mathlib.Core.Path.{◌≡◌, sym, ap, ◌∙◌}
use mathlib.Core.List.{List, [], ◌∷◌, ◌++◌, map, map-append}
use Prim.Native.Nat.{ℕ, zero, suc, ◌+◌, ◌-◌, ◌*◌, ◌/◌, ◌≤◌, ◌<◌}
use mathlib.Core.Bool.{true}
use native.Mathlib.Omega.{arith}
use lib.ListN.{length, get_or, take, drop, set, replicate, length-map, drop_of_length-le, length-replicate, get_or-replicate, get_or-map, get_or-append}
use lib.Seq.{get_or_at, set_at, drop-cons}
use Rattle.algebra.specs.Lists.{tabulate}
use Rattle.algebra.specs.Polynomial.{add}
use Rattle.algebra.specs.Ring.{CommRing}
use Rattle.algebra.proofs.Division.{quotient-add-short}
use Rattle.algebra.proofs.PolynomialLaws.{length-scale}
use Rattle.algebra.proofs.RingLaws.{zero-add}
use Rattle.field.specs.Prime.{Prime}
use Rattle.field.specs.Element.{Elem, of, 𝟘, 𝟙, words, neg}
use Rattle.field.proofs.ElementLaws.{prime_ring}
use Rattle.field.proofs.Words.{word-of, of_results}
use Rattle.domain.specs.Size.{is_size}
use Rattle.domain.specs.Polynomial.{Poly, ◌⊞◌, ◌⊟◌, ◌·◌, quotient, vanishing_poly, interpolate}
use Rattle.domain.proofs.Fill.{word-at}
use Rattle.domain.proofs.Interpolation.{length-interpolate}
use Rattle.domain.proofs.ListLaws.{map-tabulate}
use Rattle.domain.proofs.SizeLaws.{size_divides}
use Rattle.domain.proofs.Membership.{zero_word}
use Rattle.domain.proofs.Qualification.{one_word}
use Rattle.protocol.specs.Circuit.{Circuit, public_part}
use Rattle.protocol.specs.Messages.{public_poly, witness}
use Rattle.poly.proofs.LentParts.{part_length}

module _ {A : Type 0} (R : CommRing A) where
  open R use {𝟘}

  -- a 0 at the end of the shorter list changes nothing
  pub plus_padded : (f g : List A) → length f < length g → add R (f ++ (𝟘 ∷ [])) g ≡ add R f g
  plus_padded [] [] h = absurd (omega arith)
  plus_padded [] (b ∷ g) h = ap (λ c. c ∷ g) (zero-add R b)
  plus_padded (a ∷ f) [] h = absurd (omega arith)
  plus_padded (a ∷ f) (b ∷ g) h = ap (λ l. CommRing.◌⊕◌ R a b ∷ l) (plus_padded f g (omega arith))

module _ (q : Prime) where
  -- p - 1 stands for -1
  pub minus_one_word : {p : ℕ} → q.p ≡ p → p - 1 ≡ (neg (𝟙 {q = q})).word
  unfolding neg
  minus_one_word e =
      sym (ap (λ (n : ℕ). (of {q = q} (q.p - n)).word) (one_word q) ∙ word-of q (q.p - 1) (omega (arith, q.above_two)) ∙ ap (λ (n : ℕ). n - 1) e)

  -- the coefficients of Y^n - 1
  pub vanishing-first : {p : ℕ} (n : ℕ) → q.p ≡ p → p - 1 ≡ get_or (words (vanishing_poly {q = q} n)) 0 0
  unfolding vanishing_poly
  vanishing-first n e = minus_one_word e

  pub vanishing_last : (n : ℕ) → 0 < n → 1 ≡ get_or (words (vanishing_poly {q = q} n)) n 0
  unfolding vanishing_poly
  vanishing_last zero h = absurd (omega arith)
  vanishing_last (suc n) h =
      sym (word-at (vanishing_poly {q = q} (suc n)) (suc n)
      ∙ ap (λ (a : Elem q). a.word) (get_or_at (replicate (suc n - 1) 𝟘) 𝟙 [] 𝟘 n (length-replicate (suc n - 1) (𝟘 {q = q}) ∙ omega arith))
      ∙ one_word q)

  pub vanishing-between : (n i : ℕ) → 0 < i → i < n → 0 ≡ get_or (words (vanishing_poly {q = q} n)) i 0
  unfolding vanishing_poly
  vanishing-between n zero h l = absurd (omega arith)
  vanishing-between n (suc i) h l =
      sym (word-at (vanishing_poly {q = q} n) (suc i)
      ∙ ap (λ (a : Elem q). a.word)
      (get_or-append (replicate (n - 1) 𝟘) (𝟙 ∷ []) 𝟘 i (omega (arith, length-replicate (n - 1) (𝟘 {q = q})))
      ∙ get_or-replicate (n - 1) i 𝟘 𝟘 (omega arith))
      ∙ zero_word q)

-- each (|C|/|X|)-th word of z is the public part
pub public_words_lem : {q : Prime} (k : Circuit) {c x : ℕ} (z : List ℕ) → k.|C| ≡ c → k.|X| ≡ x
    → map (of {q = q}) (tabulate x (λ i. get_or z (i * (c / x)) 0)) ≡ public_part k (map of z)
unfolding public_part
public_words_lem {q} k {c} {x} z eC eX =
    map-tabulate of x (λ i. get_or z (i * (c / x)) 0)
    ∙ (λ t. tabulate x (λ i. sym (get_or-map (of {q = q}) z (i * (c / x)) 0) t))
    ∙ (λ t. tabulate (sym eX t) (λ i. get_or (map (of {q = q}) z) (i * (sym eC t / sym eX t)) 𝟘))

-- and is within z, where the first |X| entries of an array d are lent for them
pub public_within : {c x : ℕ} (z d : List ℕ) → is_size c ≡ true → is_size x ≡ true → x ≤ c → length z ≡ c → x ≤ length d
    → length (take x d) * (c / x) ≤ length z
public_within {c} {x} z d sc sx le same within =
    omega (arith, size_divides x c sx sc le, ap (λ (n : ℕ). n * (c / x)) (part_length x d within))

-- a 0 behind the first n words of a slice of n + 1
pub padded : (n : ℕ) (out e : List ℕ) → length out ≡ n + 1 → length e ≡ n → set (e ++ drop n out) n 0 ≡ e ++ (0 ∷ [])
padded n out e whole part =
    ap (λ l. set (e ++ l) n 0) (drop-cons out n 0 (omega arith))
    ∙ set_at e (get_or out n 0) (drop (suc n) out) 0 n part
    ∙ ap (λ l. e ++ (0 ∷ l)) (drop_of_length-le out {i = suc n} (omega arith))

-- ŵ from its two terms, the first of them padded; x̂ does not change the quotient
pub witness_made :
    (q : Prime) (k : Circuit) {c x : ℕ} (z : List (Elem q)) (r : Elem q) {f e : List ℕ} {g : Poly q} → k.|C| ≡ c → k.|X| ≡ x → x ≤ c
    → f ≡ e ++ (0 ∷ []) → e ≡ words (quotient x (interpolate c z)) → g ≡ quotient x (vanishing_poly c)
    → length e < length (quotient x (vanishing_poly {q = q} c)) → words (map of f ⊞ r · g) ≡ words (witness k z r)
unfolding witness public_poly
witness_made q k {c} {x} z r {f} {e} {g} eC eX within pad made ratio shorter =
    let F : Poly q = quotient x (interpolate c z) in
    let G : Poly q = quotient x (vanishing_poly c) in
    let X : Poly q = interpolate k.|X| (public_part k z) in
    ap words
    ((λ t. map of (pad t) ⊞ r · ratio t)
    ∙ ap (λ l. l ⊞ r · G) (map-append of e (0 ∷ []))
    ∙ plus_padded (prime_ring q) (map of e) (r · G) (omega (arith, length-map e (of {q = q}), length-scale (prime_ring q) r G))
    ∙ ap (λ l. l ⊞ r · G)
    (of_results F made
    ∙ sym (quotient-add-short (prime_ring q) x (interpolate c z) (neg 𝟙 · X)
    (omega (arith, length-scale (prime_ring q) (neg 𝟙) X, length-interpolate k.|X| (public_part k z)))
    (omega (arith, length-interpolate c z))))
    ∙ (λ t. quotient (sym eX t) (interpolate (sym eC t) z ⊟ X) ⊞ r · quotient (sym eX t) (vanishing_poly (sym eC t))))
