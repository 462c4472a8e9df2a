-- A quotient from one inverse that is shared: that of a product of its divisor with others. Assumes nothing.
use mathlib.Core.Path.{◌≡◌, ap, ◌∙◌}
use mathlib.Core.Logic.{◌≢◌}
use mathlib.Core.List.{[], ◌∷◌}
use Rattle.algebra.proofs.Solver.{◌:*◌, :-◌, :1, ◌:=◌, ◌⊙◌, ◌from◌, ring_by}
use Rattle.field.specs.Prime.{Prime}
use Rattle.field.specs.Element.{Elem, 𝟘, ◌⊗◌}
use Rattle.field.specs.Power.{reciprocal, ◌⊘◌}
use Rattle.field.proofs.ElementLaws.{prime_ring}
use Rattle.field.proofs.Field.{mul-reciprocal, reciprocal-product}

-- k v / (n d) from v/n divided by a product of d with others
pub selector_from : {q : Prime} (k v n d others product : Elem q) → n ≢ 𝟘 → d ≢ 𝟘 → others ≢ 𝟘 → product ≡ d ⊗ others
    → k ⊗ (v ⊗ reciprocal n ⊘ product) ⊗ others ≡ k ⊗ v ⊘ (n ⊗ d)
selector_from {q} k v n d others product n-some d_some others-some e =
    ring_by (prime_ring q)
    (k ∷ v ∷ reciprocal n ∷ reciprocal d ∷ others ∷ reciprocal others ∷ reciprocal product ∷ reciprocal (n ⊗ d) ∷ [])
    (λ k v r s o u i j. k :* (v :* r :* i) :* o := k :* v :* j from
    ((k :* v :* r :* o) ⊙ (i := s :* u)) ∷ ((k :* v :* r :* s) ⊙ (o :* u := :1)) ∷ ((:- (k :* v)) ⊙ (j := r :* s)) ∷ []) (
      ap reciprocal e ∙ reciprocal-product d others d_some others-some,
      (mul-reciprocal others others-some, (reciprocal-product n d n-some d_some, tt)),
    ) tt
