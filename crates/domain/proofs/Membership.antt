-- What code tests on words: an element is 0 where its word is, and y is in the domain where the word of y^n is 1.
-- Assumes nothing.
use mathlib.Core.Path.{◌≡◌, sym, ap, ◌∙◌}
use mathlib.Core.Bool.{true}
use Prim.Native.Nat.{ℕ}
use native.Mathlib.Omega.{arith}
use lib.Dec.{eqb}
use borrow.Author.Tests.{eqb-true, eq-eqb}
use Rattle.algebra.specs.Ring.{pow}
use Rattle.algebra.proofs.RingLaws.{sub_zero→eq, eq→sub_zero}
use Rattle.field.specs.Prime.{Prime}
use Rattle.field.specs.Element.{Elem, 𝟘, 𝟙}
use Rattle.field.specs.Power.{power}
use Rattle.field.proofs.ElementLaws.{same_word, prime_ring}
use Rattle.field.proofs.Field.{power-is-pow}
use Rattle.field.proofs.Words.{word-of}
use Rattle.domain.specs.Size.{is_size}
use Rattle.domain.specs.Domain.{inside, vanishing}
use Rattle.domain.specs.Qualifies.{Qualifies}
use Rattle.domain.proofs.Qualification.{one_word}
use Rattle.domain.proofs.ListLaws.{same_test}
use Rattle.domain.proofs.DomainLaws.{vanishing-inside, inside-vanishing}

pub zero_word : (q : Prime) → (𝟘 {q = q}).word ≡ 0
zero_word q = word-of q 0 (omega (arith, q.above_two))

pub word-zero : {q : Prime} (x : Elem q) → x.word ≡ 0 → x ≡ 𝟘
word-zero {q} x e = same_word (e ∙ sym (zero_word q))

module _ {q : Prime} (Q : Qualifies q) (n : ℕ) (s : is_size n ≡ true) where
  -- y^n = 1 exactly where y is in the domain
  pub power-inside : (y : Elem q) → pow (prime_ring q) y n ≡ 𝟙 → inside n y ≡ true
  unfolding vanishing
  power-inside y e = inside-vanishing Q n s y (eq→sub_zero (prime_ring q) _ 𝟙 e)

  pub inside-power : (y : Elem q) → inside n y ≡ true → pow (prime_ring q) y n ≡ 𝟙
  unfolding vanishing
  inside-power y h = sub_zero→eq (prime_ring q) _ 𝟙 (vanishing-inside Q n s y h)

  -- the same as a test on words
  pub inside_by_power : (y : Elem q) → eqb (power y n).word 1 ≡ inside n y
  inside_by_power y = same_test _ _
      (λ h. power-inside y (sym (power-is-pow y n) ∙ same_word (eqb-true (power y n).word 1 h ∙ sym (one_word q))))
      (λ h. eq-eqb (power y n).word 1 (ap (λ (x : Elem q). x.word) (power-is-pow y n ∙ inside-power y h) ∙ one_word q))

-- a word that is an element of the domain is in it
