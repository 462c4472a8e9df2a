-- Laws of a field: a factor that is not 0 cancels, a product is 0 only where a factor is, and reciprocals are unique.
-- Assumes nothing.
use mathlib.Core.Path.{◌≡◌, sym, ◌∙◌, ap}
use mathlib.Core.Logic.{◌≢◌}
use mathlib.Core.List.{[], ◌∷◌}
use Rattle.algebra.specs.Ring.{CommRing, IsField}
use Rattle.algebra.proofs.RingLaws.{zero-mul}
use Rattle.algebra.proofs.Solver.{◌:-◌, ◌:*◌, :-◌, :0, :1, ◌:=◌, ◌⊙◌, ◌from◌, ring_by}

module _ {A : Type 0} (R : CommRing A) (F : IsField R) where
  open R use {𝟘, 𝟙, ◌⊗◌}
  open F use {reciprocal, mul-reciprocal, one_not_zero}

  infixl 80 ◌⊗◌
  pub mul_cancel : (a b c : A) → a ≢ 𝟘 → a ⊗ b ≡ a ⊗ c → b ≡ c
  mul_cancel a b c a≢0 h = ring_by R (a ∷ b ∷ c ∷ reciprocal a ∷ [])
      (λ a b c i. b := c from (i ⊙ (a :* b := a :* c)) ∷ ((c :- b) ⊙ (a :* i := :1)) ∷ []) (h, (mul-reciprocal a a≢0, tt)) tt

  pub no_zero_divisors : (a b : A) → a ⊗ b ≡ 𝟘 → a ≢ 𝟘 → b ≡ 𝟘
  no_zero_divisors a b h a≢0 = ring_by R (a ∷ b ∷ reciprocal a ∷ [])
      (λ a b i. b := :0 from (i ⊙ (a :* b := :0)) ∷ ((:- b) ⊙ (a :* i := :1)) ∷ []) (h, (mul-reciprocal a a≢0, tt)) tt

  pub mul-not-zero : (a b : A) → a ≢ 𝟘 → b ≢ 𝟘 → a ⊗ b ≢ 𝟘
  mul-not-zero a b a≢0 b≢0 h = b≢0 (no_zero_divisors a b h a≢0)

  -- b is the reciprocal of a where their product is 1
  pub reciprocal-unique : (a b : A) → a ⊗ b ≡ 𝟙 → b ≡ reciprocal a
  reciprocal-unique a b h = mul_cancel a b (reciprocal a) a≢0 (h ∙ sym (mul-reciprocal a a≢0))
    where
      a≢0 : a ≢ 𝟘
      a≢0 e = one_not_zero (sym h ∙ ap (λ x. x ⊗ b) e ∙ zero-mul R b)

  pub reciprocal-product : (a b : A) → a ≢ 𝟘 → b ≢ 𝟘 → reciprocal (a ⊗ b) ≡ reciprocal a ⊗ reciprocal b
  reciprocal-product a b a≢0 b≢0 = sym (reciprocal-unique (a ⊗ b) (reciprocal a ⊗ reciprocal b)
      (ring_by R (a ∷ b ∷ reciprocal a ∷ reciprocal b ∷ []) (λ a b i j. a :* b :* (i :* j) := :1 from (b :* j ⊙ (a :* i := :1)) ∷ (:1 ⊙ (b :* j := :1)) ∷ [])
      (mul-reciprocal a a≢0, (mul-reciprocal b b≢0, tt)) tt))
