-- The blinded assignment: what stands at the reserved columns and at all others, and what is done to it member by member. Assumes nothing.
use mathlib.Core.Path.{◌≡◌, refl, ap, ◌∙◌}
use mathlib.Core.Logic.{◌≢◌}
use mathlib.Core.List.{List, [], ◌∷◌, map}
use Prim.Native.Nat.{ℕ, zero, suc}
use native.Mathlib.Omega.{arith}
use lib.ListN.{length, get_or, set, length-set}
use lib.Seq.{get_or-set_same, get_or-set_other, set-get_or}
use Rattle.algebra.specs.Counting.{All}
use Rattle.algebra.proofs.Counting.{all_set}
use Rattle.protocol.specs.Three.{MatrixName, A, B, C, Three, at, each, listed, map_three}
use Rattle.protocol.specs.Circuit.{Circuit}
use Rattle.protocol.specs.Blinded.{reserved_columns, blinded_assignment}
use Rattle.protocol.proofs.BlindableCircuits.{Blinds}

-- a store, and what is done to each member
map-set : {S T : Type 0} (f : S → T) (l : List S) (i : ℕ) (x : S) → map f (set l i x) ≡ set (map f l) i (f x)
map-set f [] i x = refl
map-set f (y ∷ l) zero x = refl
map-set {T = T} f (y ∷ l) (suc i) x = ap (λ (k : List T). f y ∷ k) (map-set f l i x)

module _ {T : Type 0} (c : Circuit) (z : List T) where
  module _ (ρ : Three T) where
    pub length-blinded : length (blinded_assignment c z ρ) ≡ length z
    unfolding blinded_assignment
    length-blinded = simp length-set

    -- a column that is not reserved keeps its member
    pub blinded_elsewhere :
        (k : ℕ) (d : T) → ((M : MatrixName) → k ≢ at (reserved_columns c) M) → get_or (blinded_assignment c z ρ) k d ≡ get_or z k d
    unfolding blinded_assignment
    blinded_elsewhere k d other =
        let r : Three ℕ = reserved_columns c in
        get_or-set_other (set (set z r.a ρ.a) r.b ρ.b) r.c k ρ.c d (other C)
        ∙ get_or-set_other (set z r.a ρ.a) r.b k ρ.b d (other B)
        ∙ get_or-set_other z r.a k ρ.a d (other A)

    -- what all members and the three values have
    pub all-blinded : (P : T → Type 0) → All P z → All P (listed ρ) → All P (blinded_assignment c z ρ)
    unfolding blinded_assignment
    all-blinded P h new =
        let r : Three ℕ = reserved_columns c in
        all_set P (set (set z r.a ρ.a) r.b ρ.b) r.c ρ.c
        (all_set P (set z r.a ρ.a) r.b ρ.b (all_set P z r.a ρ.a h new.0) new.1.0) new.1.1.0

  -- what stands at the reserved columns, put there again
  pub blinded_own : (d : T) → blinded_assignment c z (each (λ M. get_or z (at (reserved_columns c) M) d)) ≡ z
  unfolding blinded_assignment
  blinded_own d = simp set-get_or

pub map-blinded :
    {S T : Type 0} (f : S → T) (c : Circuit) (z : List S) (ρ : Three S)
    → map f (blinded_assignment c z ρ) ≡ blinded_assignment c (map f z) (map_three f ρ)
unfolding blinded_assignment
map-blinded f c z ρ = simp (map-set f)

-- the reserved columns hold the three values
module _ {T : Type 0} {p : ℕ} (c : Circuit) (F : Blinds p c) (z : List T) (z-length : length z ≡ c.|C|) (ρ : Three T) where
  abbrev k : Three ℕ
  k = reserved_columns c

  abbrev with_a : List T
  with_a = set z k.a ρ.a

  abbrev with_b : List T
  with_b = set with_a k.b ρ.b

  pub blinded-at : (M : MatrixName) (d : T) → get_or (blinded_assignment c z ρ) (at (reserved_columns c) M) d ≡ at ρ M
  unfolding blinded_assignment
  blinded-at A d =
      get_or-set_other with_b k.c k.a ρ.c d (λ e. omega (arith, F.lowest, F.middle))
      ∙ get_or-set_other with_a k.b k.a ρ.b d (λ e. omega (arith, F.lowest))
      ∙ get_or-set_same z k.a ρ.a d (omega (arith, F.lowest, F.middle, F.highest))
  blinded-at B d =
      get_or-set_other with_b k.c k.b ρ.c d (λ e. omega (arith, F.middle))
      ∙ get_or-set_same with_a k.b ρ.b d (omega (arith, F.middle, F.highest, length-set z k.a ρ.a))
  blinded-at C d =
      get_or-set_same with_b k.c ρ.c d
      (omega (arith, F.highest, length-set z k.a ρ.a, length-set with_a k.b ρ.b))
