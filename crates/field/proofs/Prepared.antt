-- The product by a prepared quotient: with Q = w·B / p and e = Q·x / B, where x is below B, w·x lies between e·p and (e + 2)·p, so it is
-- e·p with a rest below 2p. Assumes nothing.
use Rattle.std.proofs.Common.{◌≡◌, ℕ, ◌+◌, ◌-◌, ◌*◌, ◌/◌, ◌%◌, ◌<◌, ◌≤◌, sym, ap, ◌∙◌, mod-eq_of_lt, mul_assoc, mul_comm, add-mul, lt_of_mul-lt-mul_right, mul-le-mul_left, mul-lt-mul_of_pos_right, div-mul-le_self, le_of_mul-le-mul_right, mul_left_comm, arith}
use native.Mathlib.Nat.{lt-div-mul-add, add-mod_right, add-mul-mod_self_right}

-- the inequalities of Q and e, multiplied out
module _ (p w x B Q e : ℕ) where
  swapped : (a b c : ℕ) → a * (b * c) ≡ a * c * b
  swapped a b c = ap (λ (n : ℕ). a * n) (mul_comm b c) ∙ sym (mul_assoc a c b)

  -- e·p·B ≤ Q·x·p ≤ w·x·B
  below-product : 0 < B → Q * p ≤ w * B → e * B ≤ Q * x → e * p ≤ w * x
  below-product positive of-quotient of-estimate =
      le_of_mul-le-mul_right
      (omega (
        arith,
        mul-le-mul_left p of-estimate,
        mul-le-mul_left x of-quotient,
        mul_comm p (e * B) ∙ mul_assoc e B p ∙ swapped e B p,
        mul_left_comm p Q x ∙ ap (λ (n : ℕ). Q * n) (mul_comm p x),
        mul_left_comm x Q p,
        mul_left_comm x w B ∙ sym (mul_assoc w x B),
      )) positive

  -- w·x·B ≤ Q·x·p + p·x < (e·B + B)·p + p·B
  above_product : 0 < p → x < B → w * B < Q * p + p → Q * x < e * B + B → w * x < (e + 2) * p
  above_product positive within of-quotient of-estimate =
      lt_of_mul-lt-mul_right B
      (omega (
        arith,
        mul-le-mul_left x (omega_le of-quotient),
        mul-lt-mul_of_pos_right of-estimate positive,
        mul-lt-mul_of_pos_right within positive,
        mul_left_comm x w B ∙ sym (mul_assoc w x B),
        native.Mathlib.Nat.mul-add x (Q * p) p,
        mul_left_comm x Q p ∙ sym (mul_assoc Q x p),
        add-mul (e * B) B p,
        mul_assoc e B p ∙ swapped e B p,
        mul_comm B p,
        add-mul e 2 p,
        add-mul (e * p) (2 * p) B,
        mul_assoc 2 p B,
      ))
    where
      omega_le : {m n : ℕ} → m < n → m ≤ n
      omega_le l = omega arith

-- e
abbrev pub estimate : ℕ → ℕ → ℕ → ℕ → ℕ
estimate p w x B = w * B / p * x / B

-- what is left of w·x, once e·p is taken away, and the remainder from it
module _ (p w x B : ℕ) (positive : 0 < p) (some : 0 < B) (within : x < B) where
  abbrev e : ℕ
  e = estimate p w x B

  pub estimate_below : e * p ≤ w * x
  estimate_below = below-product p w x B (w * B / p) e some (div-mul-le_self (w * B) p) (div-mul-le_self (w * B / p * x) B)

  pub rest_below : w * x - e * p < p + p
  rest_below =
      omega (
        arith,
        above_product p w x B (w * B / p) e positive within (lt-div-mul-add positive) (lt-div-mul-add some),
        add-mul e 2 p,
        estimate_below,
      )

  pub rest-remainder : (w * x - e * p) % p ≡ (w * x) % p
  rest-remainder =
      let whole : w * x - e * p + e * p ≡ w * x = omega (arith, estimate_below) in
      sym (add-mul-mod_self_right (w * x - e * p) e p) ∙ ap (λ (n : ℕ). n % p) whole

-- the remainder of a number below 2p
pub once_less : (p n : ℕ) → n < p + p → p ≤ n → n % p ≡ n - p
once_less p n below above =
    let whole : n - p + 1 * p ≡ n = omega arith in
    ap (λ (m : ℕ). m % p) (sym whole) ∙ add-mul-mod_self_right (n - p) 1 p ∙ mod-eq_of_lt (omega arith)

-- a difference that does not wrap
not_wrapped : (C m n : ℕ) → m ≤ n → n < C → (n + (C - m)) % C ≡ n - m
not_wrapped C m n le below =
    let e : n + (C - m) ≡ n - m + C = omega arith in
    ap (λ (k : ℕ). k % C) e ∙ add-mod_right (n - m) C ∙ mod-eq_of_lt (omega arith)

-- what is left of w·x is its remainder, or that and p
module _ (C B p w x : ℕ) (positive : 0 < p) (some : p + p ≤ B) (x-below : x < B) (fits : w * x < C) where
  left : (w * x + (C - estimate p w x B * p)) % C % B ≡ w * x - estimate p w x B * p
  left =
      let some' : 0 < B = omega arith in
      let below : w * x - estimate p w x B * p < B = omega (arith, rest_below p w x B positive some' x-below) in
      ap (λ (n : ℕ). n % B) (not_wrapped C (estimate p w x B * p) (w * x) (estimate_below p w x B positive some' x-below) fits)
      ∙ mod-eq_of_lt below

  module _ {r : ℕ} (e : r ≡ (w * x + (C - estimate p w x B * p)) % C % B) where
    left-remainder : r % p ≡ (w * x) % p
    left-remainder = ap (λ (n : ℕ). n % p) (e ∙ left) ∙ rest-remainder p w x B positive (omega arith) x-below

    pub left_below : r < p → r ≡ (w * x) % p
    left_below below = sym (mod-eq_of_lt below) ∙ left-remainder

    pub left_above : p ≤ r → r - p ≡ (w * x) % p
    left_above above =
        sym (once_less p r (omega (arith, e ∙ left, rest_below p w x B positive (omega arith) x-below)) above) ∙ left-remainder
