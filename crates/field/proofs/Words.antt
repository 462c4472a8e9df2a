-- The words of sums, products and differences of the elements that two numbers stand for, and a number that is an element's
-- word, or a list of them. Assumes nothing.
use Rattle.std.proofs.Common.{◌≡◌, ℕ, ◌+◌, ◌-◌, ◌*◌, ◌%◌, ◌^◌, ◌<◌, ◌≤◌, ◌≢◌, List, [], ◌∷◌, map, sym, refl, ap, ◌∙◌, subst, ap₂, lt_of_le_of_lt, le_of_lt, mod-eq_of_lt, mul-le-mul_left, mul-lt-mul_of_pos_right, arith, pow_pos, pow-add}
use mathlib.Core.Path.{subst⁻¹}
use native.Mathlib.Nat.{add-mod_right}
use Rattle.algebra.specs.Counting.{All}
use Rattle.field.specs.Prime.{Prime}
use Rattle.field.specs.Element.{Elem, of, words, 𝟘, ◌⊕◌, ◌⊗◌, ◌⊖◌, neg}
use Rattle.field.proofs.ElementLaws.{same_word, of_word, of-add, of-mul, word_below}

module _ (q : Prime) where
  -- a number below p is the word of its element
  pub word-of : (n : ℕ) → n < q.p → (of {q = q} n).word ≡ n
  unfolding of
  word-of n h = mod-eq_of_lt h

  -- the same of a list
  pub words_back : (ws : List ℕ) → All (λ w. w < q.p) ws → words (map (of {q = q}) ws) ≡ ws
  words_back [] h = refl
  words_back (w ∷ ws) h = ap₂ ◌∷◌ (word-of w h.0) (words_back ws h.1)

  pub word-add : (m n : ℕ) → (of {q = q} m ⊕ of n).word ≡ (m + n) % q.p
  unfolding of
  word-add m n = ap (λ (x : Elem q). x.word) (sym (of-add m n))

  pub word_multiply : (m n : ℕ) → (of {q = q} m ⊗ of n).word ≡ (m * n) % q.p
  unfolding of
  word_multiply m n = ap (λ (x : Elem q). x.word) (sym (of-mul m n))

  pub word_multiply_add : (m n k : ℕ) → (of {q = q} m ⊗ of n ⊕ of k).word ≡ (m * n + k) % q.p
  unfolding of
  word_multiply_add m n k = ap (λ (x : Elem q). x.word) (sym (of-add (m * n) k ∙ ap (λ (x : Elem q). x ⊕ of k) (of-mul m n)))

  pub word_subtract : (m n : ℕ) → (of {q = q} m ⊖ of n).word ≡ (m + (q.p - n % q.p)) % q.p
  unfolding of neg
  word_subtract m n = word-add m (q.p - n % q.p)

-- sums and differences of numbers below p, with no remainder taken
module _ (q : Prime) (m n : ℕ) (m-below : m < q.p) (n-below : n < q.p) where
  pub sum_below : m + n < q.p → (of {q = q} m ⊕ of n).word ≡ m + n
  sum_below l = word-add q m n ∙ mod-eq_of_lt l

  pub sum_above : q.p ≤ m + n → (of {q = q} m ⊕ of n).word ≡ m + n - q.p
  sum_above le =
      let e : m + n ≡ m + n - q.p + q.p = omega arith in
      word-add q m n ∙ ap (λ (k : ℕ). k % q.p) e ∙ add-mod_right (m + n - q.p) q.p ∙ mod-eq_of_lt (omega arith)

  word_difference : (of {q = q} m ⊖ of n).word ≡ (m + (q.p - n)) % q.p
  word_difference = word_subtract q m n ∙ ap (λ (k : ℕ). (m + (q.p - k)) % q.p) (mod-eq_of_lt n-below)

  pub difference_above : n ≤ m → (of {q = q} m ⊖ of n).word ≡ m - n
  difference_above le =
      let e : m + (q.p - n) ≡ m - n + q.p = omega arith in
      word_difference ∙ ap (λ (k : ℕ). k % q.p) e ∙ add-mod_right (m - n) q.p ∙ mod-eq_of_lt (omega arith)

  pub difference_below : m < n → (of {q = q} m ⊖ of n).word ≡ q.p - (n - m)
  difference_below l =
      let e : m + (q.p - n) ≡ q.p - (n - m) = omega arith in
      word_difference ∙ ap (λ (k : ℕ). k % q.p) e ∙ mod-eq_of_lt (omega arith)

module _ {q : Prime} where
  -- the element of a number that is an element's word
  pub of-result : {r : ℕ} (x : Elem q) → r ≡ x.word → of r ≡ x
  of-result x e = ap of e ∙ of_word x

  -- the same of a list
  pub of_words : (l : List (Elem q)) → map of (words l) ≡ l
  of_words [] = refl
  of_words (a ∷ l) = ap₂ ◌∷◌ (of_word a) (of_words l)

  pub of_results : {ws : List ℕ} (l : List (Elem q)) → ws ≡ words l → map of ws ≡ l
  of_results l e = ap (map of) e ∙ of_words l

  pub result-below : {r : ℕ} (x : Elem q) → r ≡ x.word → r < q.p
  result-below x e = subst (λ (n : ℕ). n < q.p) (sym e) (word_below x)

  -- what is computed from the words of two elements
  pub result-product : {a b r : ℕ} (x y : Elem q) → r ≡ (of {q = q} a ⊗ of b).word → a ≡ x.word → b ≡ y.word → r ≡ (x ⊗ y).word
  result-product x y made of-x of-y = made ∙ ap₂ (λ (x y : Elem q). (x ⊗ y).word) (of-result x of-x) (of-result y of-y)

  module _ {p a b : ℕ} (e : q.p ≡ p) (x y : Elem q) (of-x : a ≡ x.word) (of-y : b ≡ y.word) where
    both_below : (a < p) × (b < p)
    both_below = (omega (arith, result-below x of-x), omega (arith, result-below y of-y))

    pub result-sum : {r : ℕ} → ((a < p) × (b < p) → r ≡ (of {q = q} a ⊕ of b).word) → r ≡ (x ⊕ y).word
    result-sum made = made both_below ∙ ap₂ (λ (x y : Elem q). (x ⊕ y).word) (of-result x of-x) (of-result y of-y)

    pub result_difference : {r : ℕ} → ((a < p) × (b < p) → r ≡ (of {q = q} a ⊖ of b).word) → r ≡ (x ⊖ y).word
    result_difference made = made both_below ∙ ap₂ (λ (x y : Elem q). (x ⊖ y).word) (of-result x of-x) (of-result y of-y)

-- whether a number stands for 0 depends on the prime's value alone
pub nonzero_by_value : {q r : Prime} → q.p ≡ r.p → (n : ℕ) → of {q = r} n ≢ 𝟘 → of {q = q} n ≢ 𝟘
unfolding of
nonzero_by_value {q} {r} e n ne z =
    ne (same_word (ap (λ (k : ℕ). n % k) (sym e) ∙ ap (λ (x : Elem q). x.word) z ∙ ap (λ (k : ℕ). 0 % k) e))

-- the product of two numbers of k bits has at most k + k
pub product-below : (k : ℕ) {a b : ℕ} → a < 2 ^ k → b < 2 ^ k → a * b < 2 ^ (k + k)
product-below k {a} {b} a-below b-below =
    subst⁻¹ (λ (n : ℕ). a * b < n) (pow-add 2 k k)
    (lt_of_le_of_lt (mul-le-mul_left a (le_of_lt b-below)) (mul-lt-mul_of_pos_right a-below (pow_pos k)))
