-- Powers by squaring, so that exponents of ten digits compute, division and the inverse (document 01, "Field and domains"; document 02,
-- request 1). Assumes nothing.
use Rattle.std.proofs.Math.Option.{Option, none, some}
use Rattle.std.specs.Prelude.{ℕ, zero, suc, ◌-◌, ◌/◌, ◌%◌, ◌==◌}
use Rattle.algebra.specs.Lists.{pick}
use Rattle.field.specs.Prime.{Prime}
use Rattle.field.specs.Element.{Elem, of, 𝟘, 𝟙, ◌⊕◌, ◌⊗◌, neg, equal}

module _ {q : Prime} where
  infixl 80 ◌⊘◌
  -- a^n is (a·a)^(n/2), times a where n is odd; the first argument bounds the turns
  unfoldable pub power_in : ℕ → Elem q → ℕ → Elem q
  power_in zero a n = 𝟙
  power_in (suc k) a zero = 𝟙
  power_in (suc k) a (suc n) = let rest : Elem q = power_in k (a ⊗ a) (suc n / 2) in pick (suc n % 2 == 0) rest (a ⊗ rest)

  -- a^n
  unfoldable pub power : Elem q → ℕ → Elem q
  power a n = power_in n a n

  -- b^(p-2), which is 1/b; read only where b is not 0
  unfoldable pub reciprocal : Elem q → Elem q
  reciprocal b = power b (q.p - 2)

  -- a/b; read only where b is not 0
  abbrev pub ◌⊘◌ : Elem q → Elem q → Elem q
  a ⊘ b = a ⊗ reciprocal b

  -- "The field inverse should answer that there is none instead of giving 0": 1/a, and none for 0
  unfoldable pub inverse : Elem q → Option (Elem q)
  inverse a = pick (equal a 𝟘) none (some (reciprocal a))

-- opens the field's arithmetic to computation
unfoldable pub field_computes : Unit {0}
unfolding pick of ◌⊕◌ ◌⊗◌ neg power_in power reciprocal inverse
field_computes = tt
