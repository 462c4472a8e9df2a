-- The field of a prime: the numbers below it, with the operations modulo the prime (document 01, "Field and domains":
-- "A field word is a u32 below p", "negative numbers are read modulo p"). Assumes nothing.
use Rattle.std.specs.Prelude.{ℕ, ◌+◌, ◌-◌, ◌*◌, ◌%◌, Bool, T, List, map, ◌==◌, nat_lt}
use Rattle.std.proofs.Common.{lt→ltb, mod-lt, arith}
use Rattle.field.specs.Prime.{Prime}

-- an element is a field word: a number with the test that it is below p
pub record Elem (q : Prime) : Type 0 where
  pub word : ℕ
  pub below : T (nat_lt word q.p)

pub remainder-below : (q : Prime) (n : ℕ) → T (nat_lt (n % q.p) q.p)
remainder-below q n = lt→ltb (n % q.p) q.p (mod-lt n (omega (arith, q.above_two)))

-- the element that a number stands for: its remainder modulo p
unfoldable pub of : {q : Prime} → ℕ → Elem q
of {q} n = record { word = n % q.p; below = remainder-below q n }

module _ {q : Prime} where
  infixl 75 ◌⊕◌
  infixl 75 ◌⊖◌
  infixl 80 ◌⊗◌
  abbrev pub 𝟘 : Elem q
  𝟘 = of 0

  abbrev pub 𝟙 : Elem q
  𝟙 = of 1

  unfoldable pub ◌⊕◌ : Elem q → Elem q → Elem q
  a ⊕ b = of (a.word + b.word)

  unfoldable pub ◌⊗◌ : Elem q → Elem q → Elem q
  a ⊗ b = of (a.word * b.word)

  unfoldable pub neg : Elem q → Elem q
  neg a = of (q.p - a.word)

  abbrev pub ◌⊖◌ : Elem q → Elem q → Elem q
  a ⊖ b = a ⊕ neg b

  -- the test for equality
  abbrev pub equal : Elem q → Elem q → Bool
  equal a b = a.word == b.word

  abbrev pub word_of : Elem q → ℕ
  word_of a = a.word

  -- lists of elements as lists of words
  abbrev pub words : List (Elem q) → List ℕ
  words l = map (λ (a : Elem q). a.word) l
