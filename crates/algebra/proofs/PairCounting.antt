-- Bounds on how many pairs there are: the firsts that occur times the most seconds that any of them has. Before that, bounds that hold once
-- there is one member, and a case for a property and one against it, without a test. Assumes nothing.
use mathlib.Core.Path.{◌≡◌, sym, ◌∙◌, subst}
use mathlib.Core.Logic.{◌≢◌, ◌⊎◌, inl, inr}
use mathlib.Core.List.{List, [], ◌∷◌}
use Prim.Native.Nat.{ℕ, zero, suc, ◌+◌, ◌*◌, ◌≤◌}
use native.Mathlib.Omega.{arith}
use native.Mathlib.Decide.{dec_le}
use native.Mathlib.Nat.{suc-mul}
use lib.ListN.{length}
use Rattle.algebra.specs.Counting.{All, AtMost, MoreThan}
use Rattle.algebra.proofs.Counting.{all_map, all_map₂, at_most_mono, at_most_either, at_most_injective}

module _ {A : Type 0} where
  -- a bound that holds once something has the property
  pub at_most_of_member : {P : A → Type 0} (n : ℕ) → ((a : A) → P a → AtMost n P) → AtMost n P
  at_most_of_member n bound [] d h = omega arith
  at_most_of_member n bound (a ∷ l) d h = bound a h.0 (a ∷ l) d h

  -- what is never so for more than n is so for at most n
  pub at_most_unless : {P : A → Type 0} (n : ℕ) → (MoreThan n P → ⊥) → AtMost n P
  at_most_unless n never l d h = elim (dec_le (length l) n) [ yes le ↦ le | no gt ↦ absurd (never (l, d, h, omega arith)) ]

  -- it cannot be that some member neither has a property nor lacks it
  cases : (D : A → Type 0) (l : List A) → ¬ ¬ All (λ x. D x ⊎ ¬ D x) l
  cases D [] none = none tt
  cases D (x ∷ l) none = cases D l (λ rest. none (inr (λ d. none (inl d, rest)), rest))

  -- so a count may distinguish these two cases, whether or not there is a test for the property
  pub at_most_cases : {P : A → Type 0} (D : A → Type 0) (n : ℕ) → AtMost n (λ x. P x × (D x ⊎ ¬ D x)) → AtMost n P
  at_most_cases D n count =
      at_most_unless n (λ (l, d, h, more). cases D l (λ either. omega (arith, count l d (all_map₂ (λ x p c. (p, c)) l h either))))

  -- at most n others, where a is one of at most n + 1
  others : (P : A → Type 0) (n : ℕ) (a : A) → P a → AtMost (suc n) P → AtMost n (λ b. P b × (b ≢ a))
  others P n a pa count l d h =
      let more : suc (length l) ≤ suc n = count (a ∷ l) (all_map (λ b pb. pb.1) l h, d) (pa, all_map (λ b pb. pb.0) l h) in
      omega arith

module _ {A B : Type 0} (same : (x y : A) → Dec (x ≡ y)) where
  -- the pairs with the first part a
  with_first : (Q : A → B → Type 0) (m : ℕ) (a : A) → AtMost m (Q a) → AtMost m (λ (t : A × B). (t.0 ≡ a) × Q t.0 t.1)
  with_first Q m a count =
      at_most_injective (λ (t : A × B). t.1) m (λ t u p q e. λ i. ((p.0 ∙ sym q.0) i, e i))
      (λ t p. subst (λ b. Q b t.1) p.0 p.1) count

  -- at most n firsts with at most m seconds each
  pub at_most_pairs : (n m : ℕ) (P : A → Type 0) (Q : A → B → Type 0) → AtMost n P → ((a : A) → P a → AtMost m (Q a))
      → AtMost (n * m) (λ (t : A × B). P t.0 × Q t.0 t.1)
  at_most_pairs zero m P Q firsts seconds =
      at_most_of_member (zero * m) (λ t h. let one : 1 ≤ 0 = firsts (t.0 ∷ []) (tt, tt) (h.0, tt) in absurd (omega arith))
  at_most_pairs (suc n) m P Q firsts seconds =
      at_most_of_member (suc n * m)
      (λ t h.
      at_most_mono (m + n * m) (suc n * m) (omega (arith, suc-mul n m)) (either t.0)
      (at_most_either m (n * m) (with_first Q m t.0 (seconds t.0 h.0))
      (at_most_pairs n m (λ b. P b × (b ≢ t.0)) Q (others P n t.0 h.0 firsts) (λ b p. seconds b p.0))))
    where
      either : (a : A) (t : A × B) → P t.0 × Q t.0 t.1
          → ((t.0 ≡ a) × Q t.0 t.1) ⊎ ((P t.0 × (t.0 ≢ a)) × Q t.0 t.1)
      either a t p = elim (same t.0 a) [ yes e ↦ inl (e, p.1) | no ne ↦ inr ((p.0, ne), p.1) ]
