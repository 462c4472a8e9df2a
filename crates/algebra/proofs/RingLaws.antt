-- Laws that follow from the axioms of a commutative ring: of zero, one and negatives, of natural numbers and of powers.
-- Subtraction is written a ⊕ neg b. Assumes nothing.
use mathlib.Core.Path.{◌≡◌, refl, sym, ◌∙◌, ap, ap₂}
use Prim.Native.Nat.{ℕ, zero, suc, ◌+◌, ◌*◌}
use native.Mathlib.Nat.{suc-add, mul-suc, suc-mul}
use Rattle.algebra.specs.Ring.{CommRing, cast, pow}

module _ {A : Type 0} (R : CommRing A) where
  open R use {𝟘, 𝟙, ◌⊕◌, ◌⊗◌, neg, add_assoc, add_comm, add-zero, add-neg, mul_assoc, mul_comm, mul_one, mul-add}

  infixl 75 ◌⊕◌
  infixl 80 ◌⊗◌
  pub zero-add : (a : A) → 𝟘 ⊕ a ≡ a
  zero-add a = add_comm 𝟘 a ∙ add-zero a

  pub one_mul : (a : A) → 𝟙 ⊗ a ≡ a
  one_mul a = mul_comm 𝟙 a ∙ mul_one a

  pub neg-add : (a : A) → neg a ⊕ a ≡ 𝟘
  neg-add a = add_comm (neg a) a ∙ add-neg a

  pub add-mul : (a b c : A) → (a ⊕ b) ⊗ c ≡ a ⊗ c ⊕ b ⊗ c
  add-mul a b c = mul_comm (a ⊕ b) c ∙ mul-add c a b ∙ ap₂ ◌⊕◌ (mul_comm c a) (mul_comm c b)

  pub add_left_comm : (a b c : A) → a ⊕ (b ⊕ c) ≡ b ⊕ (a ⊕ c)
  add_left_comm a b c = sym (add_assoc a b c) ∙ ap (λ x. x ⊕ c) (add_comm a b) ∙ add_assoc b a c

  pub mul_left_comm : (a b c : A) → a ⊗ (b ⊗ c) ≡ b ⊗ (a ⊗ c)
  mul_left_comm a b c = sym (mul_assoc a b c) ∙ ap (λ x. x ⊗ c) (mul_comm a b) ∙ mul_assoc b a c

  pub add_add_add_comm : (a b c d : A) → a ⊕ b ⊕ (c ⊕ d) ≡ a ⊕ c ⊕ (b ⊕ d)
  add_add_add_comm a b c d = simp (add_assoc, add_left_comm)

  pub mul_mul_mul_comm : (a b c d : A) → a ⊗ b ⊗ (c ⊗ d) ≡ a ⊗ c ⊗ (b ⊗ d)
  mul_mul_mul_comm a b c d = simp (mul_assoc, mul_left_comm)

  pub add_cancel : (a b c : A) → a ⊕ b ≡ a ⊕ c → b ≡ c
  add_cancel a b c h = sym (back b) ∙ ap (λ x. neg a ⊕ x) h ∙ back c
    where
      back : (x : A) → neg a ⊕ (a ⊕ x) ≡ x
      back x = sym (add_assoc (neg a) a x) ∙ ap (λ y. y ⊕ x) (neg-add a) ∙ zero-add x

  pub mul-zero : (a : A) → a ⊗ 𝟘 ≡ 𝟘
  mul-zero a = add_cancel (a ⊗ 𝟘) (a ⊗ 𝟘) 𝟘 (sym (mul-add a 𝟘 𝟘) ∙ ap (λ x. a ⊗ x) (add-zero 𝟘) ∙ sym (add-zero (a ⊗ 𝟘)))

  pub zero-mul : (a : A) → 𝟘 ⊗ a ≡ 𝟘
  zero-mul a = mul_comm 𝟘 a ∙ mul-zero a

  -- b is the negative of a where the two add up to 0
  pub neg_unique : (a b : A) → a ⊕ b ≡ 𝟘 → neg a ≡ b
  neg_unique a b h = sym (add_cancel a b (neg a) (h ∙ sym (add-neg a)))

  pub neg-neg : (a : A) → neg (neg a) ≡ a
  neg-neg a = neg_unique (neg a) a (neg-add a)

  pub neg-zero : neg 𝟘 ≡ 𝟘
  neg-zero = neg_unique 𝟘 𝟘 (add-zero 𝟘)

  pub neg_sum : (a b : A) → neg (a ⊕ b) ≡ neg a ⊕ neg b
  neg_sum a b = neg_unique (a ⊕ b) (neg a ⊕ neg b) (add_add_add_comm a b (neg a) (neg b) ∙ ap₂ ◌⊕◌ (add-neg a) (add-neg b) ∙ add-zero 𝟘)

  pub mul-neg : (a b : A) → a ⊗ neg b ≡ neg (a ⊗ b)
  mul-neg a b = sym (neg_unique (a ⊗ b) (a ⊗ neg b) (sym (mul-add a b (neg b)) ∙ ap (λ x. a ⊗ x) (add-neg b) ∙ mul-zero a))

  pub neg-mul : (a b : A) → neg a ⊗ b ≡ neg (a ⊗ b)
  neg-mul a b = mul_comm (neg a) b ∙ mul-neg b a ∙ ap neg (mul_comm b a)

  pub sub_zero→eq : (a b : A) → a ⊕ neg b ≡ 𝟘 → a ≡ b
  sub_zero→eq a b h = sym (neg-neg a) ∙ ap neg (neg_unique a (neg b) h) ∙ neg-neg b

  pub eq→sub_zero : (a b : A) → a ≡ b → a ⊕ neg b ≡ 𝟘
  eq→sub_zero a b h = ap (λ x. x ⊕ neg b) h ∙ add-neg b

  pub cast-add : (m n : ℕ) → cast R (m + n) ≡ cast R m ⊕ cast R n
  cast-add zero n = rw native.Mathlib.Nat.zero-add (sym (zero-add (cast R n)))
  cast-add (suc m) n = rw suc-add (ap (λ x. 𝟙 ⊕ x) (cast-add m n) ∙ sym (add_assoc 𝟙 (cast R m) (cast R n)))

  pub cast-mul : (m n : ℕ) → cast R (m * n) ≡ cast R m ⊗ cast R n
  cast-mul zero n = rw native.Mathlib.Nat.zero-mul (sym (zero-mul (cast R n)))
  cast-mul (suc m) n = rw suc-mul (cast-add (m * n) n ∙ ap (λ x. x ⊕ cast R n) (cast-mul m n)
      ∙ add_comm (cast R m ⊗ cast R n) (cast R n) ∙ ap (λ x. x ⊕ cast R m ⊗ cast R n) (sym (one_mul (cast R n)))
      ∙ sym (add-mul 𝟙 (cast R m) (cast R n)))

  pub pow-add : (x : A) (m n : ℕ) → pow R x (m + n) ≡ pow R x m ⊗ pow R x n
  pow-add x zero n = rw native.Mathlib.Nat.zero-add (sym (one_mul (pow R x n)))
  pow-add x (suc m) n = rw suc-add (ap (λ y. x ⊗ y) (pow-add x m n) ∙ sym (mul_assoc x (pow R x m) (pow R x n)))

  pub pow-mul : (x : A) (m n : ℕ) → pow R x (m * n) ≡ pow R (pow R x m) n
  pow-mul x m zero = rw native.Mathlib.Nat.mul-zero refl
  pow-mul x m (suc n) = rw mul-suc (pow-add x (m * n) m ∙ ap (λ y. y ⊗ pow R x m) (pow-mul x m n)
      ∙ mul_comm (pow R (pow R x m) n) (pow R x m))

  pub one_pow : (n : ℕ) → pow R 𝟙 n ≡ 𝟙
  one_pow zero = refl
  one_pow (suc n) = one_mul (pow R 𝟙 n) ∙ one_pow n

  pub mul-pow : (a b : A) (n : ℕ) → pow R (a ⊗ b) n ≡ pow R a n ⊗ pow R b n
  mul-pow a b zero = sym (mul_one 𝟙)
  mul-pow a b (suc n) = ap (λ y. a ⊗ b ⊗ y) (mul-pow a b n) ∙ mul_mul_mul_comm a b (pow R a n) (pow R b n)
