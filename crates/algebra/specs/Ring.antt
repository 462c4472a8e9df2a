-- Commutative rings and fields; natural numbers, powers and roots of unity in them. Assumes nothing.
use Rattle.std.specs.Prelude.{◌≡◌, ◌≢◌, ℕ, zero, suc, ◌<◌}

pub record CommRing (A : Type 0) : Type 0 where
  infixl 75 ◌⊕◌
  infixl 80 ◌⊗◌
  pub is_set : IsSet A
  pub 𝟘 : A
  pub 𝟙 : A
  pub ◌⊕◌ : A → A → A
  pub ◌⊗◌ : A → A → A
  pub neg : A → A
  pub add_assoc : (a b c : A) → a ⊕ b ⊕ c ≡ a ⊕ (b ⊕ c)
  pub add_comm : (a b : A) → a ⊕ b ≡ b ⊕ a
  pub add-zero : (a : A) → a ⊕ 𝟘 ≡ a
  pub add-neg : (a : A) → a ⊕ neg a ≡ 𝟘
  pub mul_assoc : (a b c : A) → a ⊗ b ⊗ c ≡ a ⊗ (b ⊗ c)
  pub mul_comm : (a b : A) → a ⊗ b ≡ b ⊗ a
  pub mul_one : (a : A) → a ⊗ 𝟙 ≡ a
  pub mul-add : (a b c : A) → a ⊗ (b ⊕ c) ≡ a ⊗ b ⊕ a ⊗ c

pub record IsField {A : Type 0} (R : CommRing A) : Type 0 where
  -- 1/a, said of every a but 0
  pub reciprocal : A → A
  pub mul-reciprocal : (a : A) → a ≢ R.𝟘 → R.◌⊗◌ a (reciprocal a) ≡ R.𝟙
  pub one_not_zero : R.𝟙 ≢ R.𝟘

module _ {A : Type 0} (R : CommRing A) where
  open R use {𝟘, 𝟙, ◌⊕◌, ◌⊗◌}

  infixl 75 ◌⊕◌
  infixl 80 ◌⊗◌
  -- the natural number n: 1 + 1 + .. + 1
  abbrev pub cast : ℕ → A
  cast zero = 𝟘
  cast (suc n) = 𝟙 ⊕ cast n

  -- x^n
  abbrev pub pow : A → ℕ → A
  pow x zero = 𝟙
  pow x (suc n) = x ⊗ pow x n

  -- w has order n: w^n is the first power of w, from w^1 on, that is 1
  pub record Order (n : ℕ) (w : A) : Type 0 where
    pub full : pow w n ≡ 𝟙
    pub first : (i : ℕ) → 0 < i → i < n → pow w i ≢ 𝟙
