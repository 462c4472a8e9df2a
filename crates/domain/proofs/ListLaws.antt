-- Laws of lists made, searched or compared by a rule: the tests `any` and `first_or`, the members of `tabulate`, and
-- equality by entries; and when two tests are the same. Assumes nothing.
use mathlib.Core.Path.{◌≡◌, refl, sym, ap, ap₂, ◌∙◌}
use mathlib.Core.Bool.{Bool, true, false, ◌||◌, false≢true}
use mathlib.Core.List.{List, [], ◌∷◌, map}
use Prim.Native.Nat.{ℕ, zero, suc, ◌<◌}
use native.Mathlib.Omega.{arith}
use lib.ListN.{length, get_or}
use Rattle.algebra.specs.Lists.{pick, tabulate, any, first_or}
use Rattle.algebra.specs.Counting.{All}
use Rattle.algebra.proofs.Choice.{pick_true, pick-false}

-- two tests that pass together are the same
pub same_test : (a b : Bool) → (a ≡ true → b ≡ true) → (b ≡ true → a ≡ true) → a ≡ b
same_test true b to from = sym (to refl)
same_test false true to from = from refl
same_test false false to from = refl

module _ {A : Type 0} where
  -- a test that some entry passes is passed by an entry that is known
  pub any-tabulate : (n : ℕ) (f : ℕ → A) (t : A → Bool) → any t (tabulate n f) ≡ true → (i : ℕ) × (i < n) × (t (f i) ≡ true)
  any-tabulate zero f t h = absurd (false≢true h)
  any-tabulate (suc n) f t h = go (t (f 0)) refl h (any-tabulate n (λ i. f (suc i)) t)
    where
      go : (b : Bool) → t (f 0) ≡ b → b || any t (tabulate n (λ i. f (suc i))) ≡ true
          → (any t (tabulate n (λ i. f (suc i))) ≡ true → (i : ℕ) × (i < n) × (t (f (suc i)) ≡ true))
          → (i : ℕ) × (i < suc n) × (t (f i) ≡ true)
      go true e h rec = (0, omega arith, e)
      go false e h rec = let (i, l, p) = rec h in (suc i, omega arith, p)

  pub tabulate-any : (n i : ℕ) (f : ℕ → A) (t : A → Bool) → i < n → t (f i) ≡ true → any t (tabulate n f) ≡ true
  tabulate-any zero i f t l h = absurd (omega arith)
  tabulate-any (suc n) zero f t l h = rw h refl
  tabulate-any (suc n) (suc i) f t l h = either (t (f 0)) (tabulate-any n i (λ i. f (suc i)) t (omega arith) h)
    where
      either : (a : Bool) {b : Bool} → b ≡ true → a || b ≡ true
      either true e = refl
      either false e = e

  -- what the members and the value for none have, the first that passes has
  pub first_or_all : (P : A → Type 0) (d : A) (t : A → Bool) (l : List A) → P d → All P l → P (first_or d t l)
  first_or_all P d t [] p h = p
  first_or_all P d t (x ∷ l) p h = go (t x) (first_or_all P d t l p h.1)
    where
      go : (b : Bool) → P (first_or d t l) → P (pick b x (first_or d t l))
      go true r = unfold pick in h.0
      go false r = unfold pick in r

  pub first_or_passes : (d : A) (t : A → Bool) (l : List A) → t d ≡ true → t (first_or d t l) ≡ true
  first_or_passes d t [] h = h
  first_or_passes d t (x ∷ l) h = go (t x) refl (first_or_passes d t l h)
    where
      go : (b : Bool) → t x ≡ b → t (first_or d t l) ≡ true → t (pick b x (first_or d t l)) ≡ true
      go true e r = unfold pick in e
      go false e r = unfold pick in r

  -- the first of a rule's values that passes
  pub first_or_tabulate : (d : A) (t : A → Bool) (n k : ℕ) (f : ℕ → A) → k < n → ((j : ℕ) → j < k → t (f j) ≡ false) → t (f k) ≡ true
      → first_or d t (tabulate n f) ≡ f k
  first_or_tabulate d t zero k f l before h = absurd (omega arith)
  first_or_tabulate d t (suc n) zero f l before h = pick_true (f 0) _ h
  first_or_tabulate d t (suc n) (suc k) f l before h = pick-false (f 0) _ (before 0 (omega arith))
      ∙ first_or_tabulate d t n k (λ i. f (suc i)) (omega arith) (λ j m. before (suc j) (omega arith)) h

  pub first_or_none : (d : A) (t : A → Bool) (n : ℕ) (f : ℕ → A) → ((j : ℕ) → j < n → t (f j) ≡ false)
      → first_or d t (tabulate n f) ≡ d
  first_or_none d t zero f fails = refl
  first_or_none d t (suc n) f fails = pick-false (f 0) _ (fails 0 (omega arith))
      ∙ first_or_none d t n (λ i. f (suc i)) (λ j m. fails (suc j) (omega arith))

  pub equal-entries : (d : A) (l m : List A) → length l ≡ length m → ((i : ℕ) → i < length l → get_or l i d ≡ get_or m i d) → l ≡ m
  equal-entries d [] [] e h = refl
  equal-entries d [] (y ∷ m) e h = absurd (omega arith)
  equal-entries d (x ∷ l) [] e h = absurd (omega arith)
  equal-entries d (x ∷ l) (y ∷ m) e h = ap₂ ◌∷◌ (h 0 (omega arith)) (equal-entries d l m (omega arith) (λ i k. h (suc i) (omega arith)))

pub map-tabulate : {A B : Type 0} (g : A → B) (n : ℕ) (f : ℕ → A) → map g (tabulate n f) ≡ tabulate n (λ i. g (f i))
map-tabulate g zero f = refl
map-tabulate g (suc n) f = ap (λ l. g (f 0) ∷ l) (map-tabulate g n (λ i. f (suc i)))
