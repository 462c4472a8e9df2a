-- Triples of elements: two are equal or differ for some matrix, and there are p³ of them. Assumes nothing.
use mathlib.Core.Path.{◌≡◌, refl, ap}
use mathlib.Core.Logic.{◌≢◌, ◌⊎◌, inl, inr}
use Prim.Native.Nat.{◌*◌}
use Rattle.algebra.specs.Counting.{Exactly}
use Rattle.algebra.proofs.ExactCounting.{exactly_pairs, exactly_along}
use Rattle.field.specs.Prime.{Prime}
use Rattle.field.specs.Element.{Elem}
use Rattle.field.proofs.ElementLaws.{decide}
use Rattle.domain.proofs.AllowedPoints.{exactly_elements}
use Rattle.protocol.specs.Three.{MatrixName, A, B, C, Three, at}

module _ {q : Prime} where
  equal_or_differing : (t u : Three (Elem q)) → (t ≡ u) ⊎ ((M : MatrixName) × (at t M ≢ at u M))
  equal_or_differing t u =
      elim (decide t.a u.a) [
        | no a ↦ inr (A, a)
        | yes a ↦ elim (decide t.b u.b) [
          | no b ↦ inr (B, b)
          | yes b ↦ elim (decide t.c u.c) [ no c ↦ inr (C, c) | yes c ↦ inl (λ i. record { a = a i; b = b i; c = c i }) ]
        ]
      ]

  -- triples that are not equal differ for some matrix
  pub differing : (t u : Three (Elem q)) → t ≢ u → (M : MatrixName) × (at t M ≢ at u M)
  differing t u other = elim (equal_or_differing t u) [ inl e ↦ absurd (other e) | inr d ↦ d ]

  pub decide_triple : (t u : Three (Elem q)) → Dec (t ≡ u)
  decide_triple t u = elim (equal_or_differing t u) [ inl e ↦ yes e | inr d ↦ no (λ e. d.1 (ap (λ v. at v d.0) e)) ]

-- there are p³ triples
pub exactly_triples : (q : Prime) → Exactly (q.p * q.p * q.p) (λ (t : Three (Elem q)). Unit {0})
exactly_triples q =
    exactly_along (λ (t : (Elem q × Elem q) × Elem q). record { a = t.0.0; b = t.0.1; c = t.1 })
    (λ (t : Three (Elem q)). ((t.a, t.b), t.c)) (λ t u. refl) (λ t u. refl) (λ t u. tt) (λ t u. ((tt, tt), tt))
    (exactly_pairs (exactly_pairs (exactly_elements q) (exactly_elements q)) (exactly_elements q))
