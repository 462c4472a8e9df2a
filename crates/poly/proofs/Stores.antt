-- A list whose first entries have been replaced by those of another, as a loop that stores into a slice leaves it: `joined l m i` has
-- its first i entries from l and the others from m. Upwards l is the target; downwards m is. Assumes nothing.
use Rattle.std.proofs.Common.{◌≡◌, refl, sym, ap, ap₂, ◌∙◌, List, [], ◌∷◌, ◌++◌, ℕ, zero, suc, ◌+◌, ◌-◌, ◌≤◌, ◌<◌, arith, add-one, length, take, drop, set, get_or, drop_of_length-le, take_all}

unfoldable pub joined : {A : Type 0} → List A → List A → ℕ → List A
joined l m i = take i l ++ drop i m

module _ {A : Type 0} where
  pub joined-none : (l m : List A) → m ≡ joined l m 0
  unfolding joined
  joined-none l m = refl

  pub joined-all : (l m : List A) (i : ℕ) → length l ≤ i → length m ≤ i → joined l m i ≡ l
  unfolding joined
  joined-all l m i above-l above-m = ap₂ ◌++◌ (take_all i l above-l) (drop_of_length-le m above-m) ∙ append_nil l
    where
      append_nil : (l : List A) → l ++ [] ≡ l
      append_nil [] = refl
      append_nil (x ∷ l) = ap (λ (r : List A). x ∷ r) (append_nil l)

  -- an entry of each part
  pub joined-second : (l m : List A) (i k : ℕ) (d : A) → length l ≡ length m → i ≤ k → get_or (joined l m i) k d ≡ get_or m k d
  unfolding joined
  joined-second l m zero k d e le = refl
  joined-second [] [] (suc i) k d e le = refl
  joined-second [] (y ∷ m) (suc i) k d e le = absurd (omega arith)
  joined-second (x ∷ l) [] (suc i) k d e le = absurd (omega arith)
  joined-second (x ∷ l) (y ∷ m) (suc i) zero d e le = absurd (omega arith)
  joined-second (x ∷ l) (y ∷ m) (suc i) (suc k) d e le = joined-second l m i k d (omega arith) (omega arith)

  -- a turn of a loop that stores upwards, and of one that stores downwards
  store_first : (l m : List A) (i : ℕ) (v d : A) → length l ≡ length m → i < length m → v ≡ get_or l i d
      → set (joined l m i) i v ≡ joined l m (suc i)
  unfolding joined
  store_first [] m i v d e below made = absurd (omega arith)
  store_first (x ∷ l) [] i v d e below made = absurd (omega arith)
  store_first (x ∷ l) (y ∷ m) zero v d e below made = ap (λ (z : A). z ∷ m) made
  store_first (x ∷ l) (y ∷ m) (suc i) v d e below made = ap (λ (r : List A). x ∷ r) (store_first l m i v d (omega arith) (omega arith) made)

  store_second : (l m : List A) (i : ℕ) (v d : A) → length l ≡ length m → i < length m → v ≡ get_or m i d
      → set (joined l m (suc i)) i v ≡ joined l m i
  unfolding joined
  store_second [] m i v d e below made = absurd (omega arith)
  store_second (x ∷ l) [] i v d e below made = absurd (omega arith)
  store_second (x ∷ l) (y ∷ m) zero v d e below made = ap (λ (z : A). z ∷ m) made
  store_second (x ∷ l) (y ∷ m) (suc i) v d e below made = ap (λ (r : List A). x ∷ r) (store_second l m i v d (omega arith) (omega arith) made)

module _ {A : Type 0} (target before now : List A) (i : ℕ) (v d : A) (same : length target ≡ length before) where
  pub store_up : i < length before → now ≡ joined target before i → v ≡ get_or target i d → set now i v ≡ joined target before (i + 1)
  store_up below so_far made =
      rw add-one (ap (λ (l : List A). set l i v) so_far ∙ store_first target before i v d same below made)

  pub store_down : 0 < i → i ≤ length before → now ≡ joined before target i → v ≡ get_or target (i - 1) d
      → set now (i - 1) v ≡ joined before target (i - 1)
  store_down positive within so_far made =
      let e : i ≡ suc (i - 1) = omega arith in
      ap (λ (l : List A). set l (i - 1) v) (so_far ∙ ap (joined before target) e)
      ∙ store_second before target (i - 1) v d (sym same) (omega arith) made
