-- A slice whose length is a size other than 1 falls into two halves, each of half the size: what is asked of the halves follows from
-- what is asked of the whole. Assumes nothing.
use mathlib.Core.Path.{◌≡◌, refl, ap, ◌∙◌}
use mathlib.Core.Logic.{◌≢◌}
use mathlib.Core.Bool.{true}
use mathlib.Core.List.{List, [], ◌∷◌, ◌++◌, append-nil}
use Prim.Native.Nat.{ℕ, zero, suc, ◌+◌, ◌-◌, ◌*◌, ◌/◌, ◌^◌, ◌<◌}
use native.Mathlib.Omega.{arith}
use native.Mathlib.Nat.{mul-add, add-mul, mul-one}
use lib.Pow.{pow_pos}
use lib.ListN.{length, take, drop, set, length-append, length-drop, drop_of_length-le}
use lib.Seq.{take_all, take_at, drop_at}
use Rattle.algebra.proofs.HalvingLaws.{twice}
use Rattle.domain.specs.Size.{is_size}
use Rattle.domain.proofs.SizeLaws.{size_is-power, power-is_size}

-- n places of a list of length m, step apart and the first at `from`
pub record Halved (n from step m : ℕ) : Type 0 where
  pub doubled : n ≡ n / 2 + n / 2
  pub some : 0 < n / 2
  pub size : is_size (n / 2) ≡ true
  pub even : from + (step + step) * (n / 2 - 1) < m
  pub odd : from + step + (step + step) * (n / 2 - 1) < m
  pub room : from + step < m

pub halved : (n from step m : ℕ) → is_size n ≡ true → n ≢ 1 → from + step * (n - 1) < m → Halved n from step m
halved n from step m s many within = let (k, l, e) = size_is-power n s in go k l e
  where
    go : (k : ℕ) → k < 11 → n ≡ 2 ^ k → Halved n from step m
    go zero l e = absurd (many e)
    go (suc k) l e =
        let h : ℕ = n / 2 in
        let half : h ≡ 2 ^ k = omega (arith, twice k) in
        let some : 0 < h = omega (arith, pow_pos k) in
        let doubled : n ≡ h + h = omega (arith, twice k) in
        let less : n - 1 ≡ (h - 1) + (h - 1) + 1 = omega arith in
        let places : step * (n - 1) ≡ step * (h - 1) + step * (h - 1) + step = ap (λ j. step * j) less ∙ simp (mul-add, mul-one) in
        let both : (step + step) * (h - 1) ≡ step * (h - 1) + step * (h - 1) = add-mul step step (h - 1) in
        record {
          doubled = doubled;
          some = some;
          size = ap is_size half ∙ power-is_size k (omega arith);
          even = omega arith;
          odd = omega arith;
          room = omega arith;
        }

-- the exponents of 1, and of the half of any size but 1
pub exponent_none : (k : ℕ) → 2 ^ k ≡ 1 → k ≡ 0
exponent_none zero e = refl
exponent_none (suc k) e = absurd (omega (arith, twice k, pow_pos k))

pub exponent_less : (n k : ℕ) → n ≡ 2 ^ k → n ≢ 1 → (suc (k - 1) ≡ k) × (n / 2 ≡ 2 ^ (k - 1))
exponent_less n zero e many = absurd (many e)
exponent_less n (suc k) e many =
    let less : k ≡ suc k - 1 = omega arith in
    let half : n / 2 ≡ 2 ^ k = omega (arith, twice k) in
    (omega arith, half ∙ ap (λ j. 2 ^ j) less)

pub one_set : (d : List ℕ) (v : ℕ) → length d ≡ 1 → set d 0 v ≡ v ∷ []
one_set [] v h = absurd (omega arith)
one_set (x ∷ []) v h = refl
one_set (x ∷ (y ∷ d)) v h = absurd (omega arith)

-- the slice d, once its first half has become e
module _ (h : ℕ) (d e : List ℕ) (two : length d ≡ h + h) (first : length e ≡ h) where
  whole : length (e ++ drop h d) ≡ h + h
  whole = omega (arith, length-append e (drop h d), length-drop h d)

  rest : drop h (e ++ drop h d) ≡ drop h d
  rest = drop_at e (drop h d) h first

  pub second-length : length (take (length (e ++ drop h d) - h) (drop h (e ++ drop h d))) ≡ h
  second-length =
      let l : length (drop h (e ++ drop h d)) ≡ h = ap length rest ∙ omega (arith, length-drop h d) in
      ap length (take_all (length (e ++ drop h d) - h) (drop h (e ++ drop h d)) (omega (arith, whole))) ∙ l

  -- and its second o
  pub both_halves : (o : List ℕ) → length o ≡ h
      → take h (e ++ drop h d) ++ (o ++ drop (length (e ++ drop h d) - h) (drop h (e ++ drop h d))) ≡ e ++ o
  both_halves o second =
      let none : drop (length (e ++ drop h d) - h) (drop h (e ++ drop h d)) ≡ [] =
      drop_of_length-le (drop h (e ++ drop h d)) {i = length (e ++ drop h d) - h} (omega (arith, whole, ap length rest, length-drop h d)) in
      rw (take_at e (drop h d) h, none, append-nil)
