-- A linear equation in three unknowns, one for each matrix, with a coefficient that is not 0: the other two are free and give that
-- unknown, so exactly p² of the p³ triples are solutions. Assumes nothing.
use mathlib.Core.Path.{◌≡◌, refl, sym, ap, ◌∙◌}
use mathlib.Core.Logic.{◌≢◌}
use mathlib.Core.List.{[], ◌∷◌}
use Prim.Native.Nat.{◌*◌}
use Rattle.algebra.specs.Counting.{Exactly}
use Rattle.algebra.specs.Ring.{CommRing}
use Rattle.algebra.proofs.ExactCounting.{exactly_pairs, exactly_along}
use Rattle.algebra.proofs.Solver.{◌:+◌, ◌:*◌, :-◌, :0, :1, ◌:=◌, ◌⊙◌, ◌from◌, ring, ring_by}
use Rattle.field.specs.Prime.{Prime}
use Rattle.field.specs.Element.{Elem, 𝟘, ◌⊕◌, ◌⊗◌, neg}
use Rattle.field.specs.Power.{reciprocal, ◌⊘◌}
use Rattle.field.proofs.ElementLaws.{prime_ring}
use Rattle.field.proofs.Field.{mul-reciprocal}
use Rattle.domain.proofs.AllowedPoints.{exactly_elements}
use Rattle.protocol.specs.Three.{MatrixName, A, B, C, Three, at, sum_matrices}

module _ {T : Type 0} where
  -- the triple with x for M, and a pair for the other two in order
  abbrev triple : MatrixName → T → T × T → Three T
  triple A x u = record { a = x; b = u.0; c = u.1 }
  triple B x u = record { a = u.0; b = x; c = u.1 }
  triple C x u = record { a = u.0; b = u.1; c = x }

  -- what a triple has for the other two
  abbrev others : MatrixName → Three T → T × T
  others A t = (t.b, t.c)
  others B t = (t.a, t.c)
  others C t = (t.a, t.b)

  triple_others : (M : MatrixName) (t : Three T) → triple M (at t M) (others M t) ≡ t
  triple_others A t = refl
  triple_others B t = refl
  triple_others C t = refl

  others_triple : (M : MatrixName) (x : T) (u : T × T) → others M (triple M x u) ≡ u
  others_triple A x u = refl
  others_triple B x u = refl
  others_triple C x u = refl

module _ {q : Prime} (s : Elem q) (e : Three (Elem q)) where
  abbrev R : CommRing (Elem q)
  R = prime_ring q

  -- s + Σ e_N t_N
  abbrev pub linear : Three (Elem q) → Elem q
  linear t = s ⊕ sum_matrices (λ N. at e N ⊗ at t N)

  -- what it is without M's term
  abbrev rest : MatrixName → Elem q × Elem q → Elem q
  rest M u = s ⊕ (others M e).0 ⊗ u.0 ⊕ (others M e).1 ⊗ u.1

  linear_parts : (M : MatrixName) (x : Elem q) (u : Elem q × Elem q) → linear (triple M x u) ≡ at e M ⊗ x ⊕ rest M u
  linear_parts A x u = ring R (s ∷ e.a ∷ e.b ∷ e.c ∷ x ∷ u.0 ∷ u.1 ∷ [])
      (λ s a b c x u v. s :+ (a :* x :+ b :* u :+ c :* v) := a :* x :+ (s :+ b :* u :+ c :* v)) tt
  linear_parts B x u = ring R (s ∷ e.a ∷ e.b ∷ e.c ∷ x ∷ u.0 ∷ u.1 ∷ [])
      (λ s a b c x u v. s :+ (a :* u :+ b :* x :+ c :* v) := b :* x :+ (s :+ a :* u :+ c :* v)) tt
  linear_parts C x u = ring R (s ∷ e.a ∷ e.b ∷ e.c ∷ x ∷ u.0 ∷ u.1 ∷ [])
      (λ s a b c x u v. s :+ (a :* u :+ b :* v :+ c :* x) := c :* x :+ (s :+ a :* u :+ b :* v)) tt

  -- the unknown of M, from the other two
  abbrev solution : MatrixName → Elem q × Elem q → Elem q
  solution M u = neg (rest M u) ⊘ at e M

  module _ (M : MatrixName) (nonzero : at e M ≢ 𝟘) where
    solution_solves : (u : Elem q × Elem q) → linear (triple M (solution M u) u) ≡ 𝟘
    solution_solves u = linear_parts M (solution M u) u
        ∙ ring_by R (at e M ∷ reciprocal (at e M) ∷ rest M u ∷ [])
        (λ a i r. a :* ((:- r) :* i) :+ r := :0 from ((:- r) ⊙ (a :* i := :1)) ∷ []) (mul-reciprocal (at e M) nonzero, tt) tt

    solves_is_solution : (t : Three (Elem q)) → linear t ≡ 𝟘 → at t M ≡ solution M (others M t)
    solves_is_solution t h = ring_by R (at e M ∷ reciprocal (at e M) ∷ at t M ∷ rest M (others M t) ∷ [])
        (λ a i x r. x := (:- r) :* i from (i ⊙ (a :* x :+ r := :0)) ∷ ((:- x) ⊙ (a :* i := :1)) ∷ [])
        (sym (linear_parts M (at t M) (others M t)) ∙ ap linear (triple_others M t) ∙ h, (mul-reciprocal (at e M) nonzero, tt)) tt

    -- a solution for each pair of the other two, and no more
    pub linear_solutions : Exactly (q.p * q.p) (λ t. linear t ≡ 𝟘)
    linear_solutions =
        exactly_along (λ u. triple M (solution M u) u) (others M) (λ u any. others_triple M (solution M u) u)
        (λ t h. ap (λ x. triple M x (others M t)) (sym (solves_is_solution t h)) ∙ triple_others M t)
        (λ u any. solution_solves u) (λ t h. (tt, tt)) (exactly_pairs (exactly_elements q) (exactly_elements q))
