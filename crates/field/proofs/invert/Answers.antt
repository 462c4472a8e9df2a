-- `field::invert` meets its contract: a is 0 where its remainder is. Assumes nothing.
use Rattle.std.proofs.Common.{◌≡◌, ℕ, ◌-◌, ◌%◌, sym, ap, ◌∙◌}
use Rattle.std.proofs.Math.Option.{none, some, map}
use native.Mathlib.Nat.{zero-mod}
use Rattle.field.specs.Prime.{Prime}
use Rattle.field.specs.Element.{Elem, of, word_of}
use Rattle.field.specs.Power.{power, reciprocal, inverse}
use Rattle.field.proofs.ElementLaws.{same_word}
use Rattle.field.proofs.Field.{inverse-zero, inverse_other}
use Rattle.field.proofs.invert.Goals as goal

module _ (q : Prime) (n : ℕ) where
  none-at_zero : n % q.p ≡ 0 → none ≡ map word_of (inverse (of {q = q} n))
  unfolding of
  none-at_zero e = sym (ap (map word_of) (inverse-zero (of n) (same_word (e ∙ sym (zero-mod q.p)))))

  some_elsewhere : {r : ℕ} → (n % q.p ≡ 0 → ⊥) → r ≡ (power (of {q = q} n) (q.p - 2)).word
      → some r ≡ map word_of (inverse (of {q = q} n))
  unfolding of reciprocal
  some_elsewhere ne e =
      ap some e
      ∙ sym (ap (map word_of) (inverse_other (of n) (λ z. ne (ap (λ (x : Elem q). x.word) z ∙ zero-mod q.p))))

pub returns-then-reduce-eq0 : goal.returns-then-reduce-eq0
returns-then-reduce-eq0 c q e = none-at_zero q c.args.a (cc)

pub returns : goal.returns
returns c q e = some_elsewhere q c.args.a (λ z. c.if-reduce-eq0.false (cc)) (cc (c.raise.ensures q e))
