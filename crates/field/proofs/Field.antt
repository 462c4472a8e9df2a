-- The field of a prime: power by squaring is the power, the inverse is one and all but 0 have one, and numbers stand for sums of ones.
-- Assumes nothing.
use Rattle.std.proofs.Common.{◌≡◌, ℕ, zero, suc, ◌-◌, ◌*◌, ◌/◌, ◌%◌, ◌≤◌, Bool, true, false, eqb, ◌≢◌, sym, refl, ap, ◌∙◌, le_refl, one-add, arith, eq-eqb, ne_eqb, eqb-true}
use mathlib.Core.Option.{none, some, some-ne-none, some-injective}
use borrow.Author.Tests.{eqb-false}
use lib.Arith.{half_le}
use Rattle.algebra.specs.Lists.{pick}
use Rattle.algebra.specs.Ring.{IsField, cast, pow}
use Rattle.algebra.proofs.Choice.{pick_true, pick-false}
use Rattle.algebra.proofs.RingLaws.{pow-mul}
use Rattle.algebra.proofs.FieldLaws
use Rattle.field.specs.Prime.{Prime}
use Rattle.field.specs.Element.{Elem, of, 𝟘, 𝟙, ◌⊕◌, ◌⊗◌, equal}
use Rattle.field.specs.Power.{power_in, power, reciprocal, inverse}
use Rattle.field.proofs.ElementLaws.{same_word, of-add, mul_one, one_not_zero, decide, prime_ring}
use Rattle.field.proofs.Fermat.{fermat}

module _ {q : Prime} where
  -- one turn of squaring, at an even and at an odd exponent
  pub pow_even : (a : Elem q) (n : ℕ) → n % 2 ≡ 0 → pow (prime_ring q) a n ≡ pow (prime_ring q) (a ⊗ a) (n / 2)
  pow_even a n e =
      let half : n ≡ 2 * (n / 2) = omega arith in
      ap (pow (prime_ring q) a) half ∙ pow-mul (prime_ring q) a 2 (n / 2) ∙ ap (λ y. pow (prime_ring q) (a ⊗ y) (n / 2)) (mul_one a)

  pub pow_odd : (a : Elem q) (n : ℕ) → n % 2 ≡ 1 → pow (prime_ring q) a n ≡ a ⊗ pow (prime_ring q) (a ⊗ a) (n / 2)
  pow_odd a n e =
      let half : n ≡ suc (2 * (n / 2)) = omega arith in
      ap (pow (prime_ring q) a) half
      ∙ ap (λ y. a ⊗ y) (pow-mul (prime_ring q) a 2 (n / 2) ∙ ap (λ y. pow (prime_ring q) (a ⊗ y) (n / 2)) (mul_one a))

  pow_turn : (a : Elem q) (n : ℕ) (even : Bool) → eqb (n % 2) 0 ≡ even → (rest : Elem q) → pow (prime_ring q) (a ⊗ a) (n / 2) ≡ rest → pow (prime_ring q) a n ≡ pick even rest (a ⊗ rest)
  unfolding pick
  pow_turn a n true e rest h = pow_even a n (eqb-true (n % 2) 0 e) ∙ h
  pow_turn a n false e rest h = pow_odd a n (omega (arith, eqb-false (n % 2) 0 e)) ∙ ap (λ y. a ⊗ y) h

  power_turns : (f : ℕ) (a : Elem q) (n : ℕ) → n ≤ f → pow (prime_ring q) a n ≡ power_in f a n
  unfolding power_in
  power_turns zero a n h = let e : n ≡ 0 = omega arith in ap (pow (prime_ring q) a) e
  power_turns (suc f) a zero h = refl
  power_turns (suc f) a (suc n) h = pow_turn a (suc n) _ refl _ (power_turns f (a ⊗ a) (suc n / 2) (half_le h))

  pub power-is-pow : (a : Elem q) (n : ℕ) → power a n ≡ pow (prime_ring q) a n
  unfolding power
  power-is-pow a n = sym (power_turns n a n (le_refl n))

  pub mul-reciprocal : (a : Elem q) → a ≢ 𝟘 → a ⊗ reciprocal a ≡ 𝟙
  unfolding reciprocal
  mul-reciprocal a ne =
      let e : suc (q.p - 2) ≡ q.p - 1 = omega (arith, q.above_two) in
      ap (λ y. a ⊗ y) (power-is-pow a (q.p - 2)) ∙ ap (pow (prime_ring q) a) e ∙ fermat a ne

  -- the number n is n ones added up
  pub cast-is-of : (n : ℕ) → cast (prime_ring q) n ≡ of n
  cast-is-of zero = refl
  cast-is-of (suc n) = ap (λ y. 𝟙 ⊕ y) (cast-is-of n) ∙ sym (of-add 1 n) ∙ ap of (one-add n)

  -- the test for equality
  pub equal-true : (a b : Elem q) → equal a b ≡ true → a ≡ b
  equal-true a b h = same_word (eqb-true a.word b.word h)

  pub equal-false : (a b : Elem q) → equal a b ≡ false → a ≢ b
  equal-false a b h e = eqb-false a.word b.word h (ap (λ (x : Elem q). x.word) e)

  pub true-equal : (a b : Elem q) → a ≡ b → equal a b ≡ true
  true-equal a b e = eq-eqb a.word b.word (ap (λ (x : Elem q). x.word) e)

  pub false-equal : (a b : Elem q) → a ≢ b → equal a b ≡ false
  false-equal a b ne = ne_eqb a.word b.word (λ e. ne (same_word e))

pub prime_field : (q : Prime) → IsField (prime_ring q)
prime_field q = record { reciprocal = reciprocal; mul-reciprocal = mul-reciprocal; one_not_zero = one_not_zero }

pub no_zero_divisors : (q : Prime) (a b : Elem q) → a ⊗ b ≡ 𝟘 → a ≢ 𝟘 → b ≡ 𝟘
no_zero_divisors q = FieldLaws.no_zero_divisors (prime_ring q) (prime_field q)

pub reciprocal-unique : {q : Prime} (a b : Elem q) → a ⊗ b ≡ 𝟙 → b ≡ reciprocal a
unfolding prime_field
reciprocal-unique {q} = FieldLaws.reciprocal-unique (prime_ring q) (prime_field q)

pub reciprocal-product : {q : Prime} (a b : Elem q) → a ≢ 𝟘 → b ≢ 𝟘 → reciprocal (a ⊗ b) ≡ reciprocal a ⊗ reciprocal b
unfolding prime_field
reciprocal-product {q} = FieldLaws.reciprocal-product (prime_ring q) (prime_field q)

module _ {q : Prime} where
  -- 0 has no inverse
  pub inverse-zero : (a : Elem q) → a ≡ 𝟘 → inverse a ≡ none
  unfolding inverse
  inverse-zero a e = pick_true _ _ (true-equal a 𝟘 e)

  -- every other element has one
  pub inverse_other : (a : Elem q) → a ≢ 𝟘 → inverse a ≡ some (reciprocal a)
  unfolding inverse
  inverse_other a ne = pick-false _ _ (false-equal a 𝟘 ne)

  -- so where there is none, the element is 0, and where there is one, it is the inverse
  pub none_is_zero : (a : Elem q) → inverse a ≡ none → a ≡ 𝟘
  none_is_zero a e = elim (decide a 𝟘) [ yes z ↦ z | no ne ↦ absurd (some-ne-none _ (sym (inverse_other a ne) ∙ e)) ]

  pub some-is-inverse : (a i : Elem q) → inverse a ≡ some i → a ⊗ i ≡ 𝟙
  some-is-inverse a i e = elim (decide a 𝟘) [
    | yes z ↦ absurd (some-ne-none _ (sym e ∙ inverse-zero a z))
    | no ne ↦ ap (λ y. a ⊗ y) (some-injective _ _ (sym e ∙ inverse_other a ne)) ∙ mul-reciprocal a ne
  ]
