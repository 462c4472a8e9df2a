-- The binary digits of a size: exactly one is set, and the zeros below it are counted by the exponent. Assumes nothing.
use mathlib.Core.Path.{◌≡◌, refl, sym, ap, ◌∙◌}
use mathlib.Core.Logic.{◌⊎◌, inl, inr, ⊎_elim}
use mathlib.Core.Bool.{true, false, true≢false}
use Prim.Native.Nat.{ℕ, zero, suc, ◌+◌, ◌*◌, ◌/◌, ◌%◌, ◌^◌, ◌<◌, ◌≤◌}
use native.Mathlib.Omega.{arith}
use native.Mathlib.Decide.{dec_lt}
use native.Mathlib.Nat.{pow-suc}
use lib.Arith.{half_le, lt-one}
use lib.Pow.{pow_mono, pow_pos}
use lib.Dec.{eqb}
use lib.Count.{ones, ones_step, ones_cat, count_trailing_zeros, under}
use borrow.Author.Tests.{eqb-true, eq-eqb}
use Rattle.domain.specs.Size.{max_size, is_size}
use Rattle.domain.proofs.SizeLaws.{size_is-power, power-is_size, size_bound}
use Rattle.domain.proofs.ListLaws.{same_test}

even_or_odd : (n : ℕ) → (n % 2 ≡ 0) ⊎ (n % 2 ≡ 1)
even_or_odd n = go (n % 2) (omega arith)
  where
    go : (r : ℕ) → r < 2 → (r ≡ 0) ⊎ (r ≡ 1)
    go zero h = inl refl
    go (suc zero) h = inr refl
    go (suc (suc r)) h = absurd (omega arith)

-- only 0 has no digit set; the bound d is for the recursion
no_digit : (d n : ℕ) → n ≤ d → ones n ≡ 0 → n ≡ 0
no_digit zero n h e = omega arith
no_digit (suc d) n h e = omega (arith, ones_step n, no_digit d (n / 2) (half_le h) (omega (arith, ones_step n)))

trailing_even : (k n : ℕ) → n % 2 ≡ 0 → count_trailing_zeros (suc k) n ≡ suc (count_trailing_zeros k (n / 2))
unfolding count_trailing_zeros
trailing_even k n e = ap (λ (d : ℕ). under d (count_trailing_zeros k (n / 2))) e

trailing_odd : (k n : ℕ) → n % 2 ≡ 1 → count_trailing_zeros (suc k) n ≡ 0
unfolding count_trailing_zeros
trailing_odd k n e = ap (λ (d : ℕ). under d (count_trailing_zeros k (n / 2))) e

-- a number of k digits, one of them set, is the power of two at its trailing zeros
one_digit : (k n : ℕ) → n < 2 ^ k → ones n ≡ 1 → n ≡ 2 ^ count_trailing_zeros k n
one_digit zero n h e = let none : ◌≡◌ {A = ℕ} 0 1 = unfold ones in sym (ap ones (lt-one h)) ∙ e in absurd (omega arith)
one_digit (suc k) n h e =
    ⊎_elim
    (λ even.
    let t : ℕ = count_trailing_zeros k (n / 2) in
    let half : n / 2 ≡ 2 ^ t = one_digit k (n / 2) (omega (arith, pow-suc 2 k)) (omega (arith, ones_step n)) in
    let whole : n ≡ 2 ^ suc t = omega (arith, half, pow-suc 2 t) in
    whole ∙ ap (λ (j : ℕ). 2 ^ j) (sym (trailing_even k n even)))
    (λ odd.
    let half : n / 2 ≡ 0 = no_digit (n / 2) (n / 2) (omega arith) (omega (arith, ones_step n)) in
    let whole : n ≡ 2 ^ 0 = omega arith in
    whole ∙ ap (λ (j : ℕ). 2 ^ j) (sym (trailing_odd k n odd)))
    (even_or_odd n)

ones_power : (k : ℕ) → ones (2 ^ k) ≡ 1
unfolding ones
ones_power k = let shifted : 2 ^ k ≡ 1 * 2 ^ k + 0 = omega arith in ap ones shifted ∙ ones_cat k 1 0 (pow_pos k)

trailing_power : (k j : ℕ) → j < k → count_trailing_zeros k (2 ^ j) ≡ j
trailing_power zero j h = absurd (omega arith)
trailing_power (suc k) zero h = trailing_odd k 1 refl
trailing_power (suc k) (suc j) h =
    let half : 2 ^ suc j / 2 ≡ 2 ^ j = omega (arith, pow-suc 2 j) in
    trailing_even k (2 ^ suc j) (omega (arith, pow-suc 2 j))
    ∙ ap suc (ap (count_trailing_zeros k) half ∙ trailing_power k j (omega arith))

-- a power of two that is at most 1,024 has an exponent below 11
exponent_below : (k : ℕ) → 2 ^ k ≤ max_size → k < 11
exponent_below k h = elim (dec_lt k 11) [ yes l ↦ l | no m ↦ absurd (omega (arith, pow_mono {i = 11} {j = k} (omega arith))) ]

-- up to 1,024, the sizes are the numbers with one digit set
pub size_ones : (n : ℕ) → n ≤ max_size → eqb (ones n) 1 ≡ is_size n
size_ones n h = same_test _ _ one_is_size size_is_one
  where
    one_is_size : eqb (ones n) 1 ≡ true → is_size n ≡ true
    one_is_size e =
        let power : n ≡ 2 ^ count_trailing_zeros 32 n = one_digit 32 n (omega arith) (eqb-true (ones n) 1 e) in
        ap is_size power ∙ power-is_size (count_trailing_zeros 32 n) (exponent_below (count_trailing_zeros 32 n) (omega arith))

    size_is_one : is_size n ≡ true → eqb (ones n) 1 ≡ true
    size_is_one s = let (k, l, e) = size_is-power n s in eq-eqb (ones n) 1 (ap ones e ∙ ones_power k)

pub size_past : (n : ℕ) → max_size < n → false ≡ is_size n
size_past n h = same_test false (is_size n) (λ e. absurd (true≢false (sym e))) (λ s. absurd (omega (arith, size_bound n s)))

-- a size is 2^k for the number k of its trailing zeros
pub size_trailing : (n : ℕ) → is_size n ≡ true → (count_trailing_zeros 32 n < 11) × (n ≡ 2 ^ count_trailing_zeros 32 n)
size_trailing n s =
    let (k, l, e) = size_is-power n s in
    let t : count_trailing_zeros 32 n ≡ k = ap (count_trailing_zeros 32) e ∙ trailing_power 32 k (omega arith) in (
      omega arith,
      e ∙ ap (λ (j : ℕ). 2 ^ j) (sym t),
    )
