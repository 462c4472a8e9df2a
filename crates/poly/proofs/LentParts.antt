-- The first n entries of an array, lent to a call that fills them and lent again: e is what the call left there, d the array before.
-- Also words that a call computed, as elements. Assumes nothing.
use mathlib.Core.Path.{◌≡◌, ◌∙◌}
use mathlib.Core.List.{List, ◌++◌, map}
use Prim.Native.Nat.{ℕ, ◌+◌, ◌-◌, ◌≤◌, ◌<◌}
use native.Mathlib.Omega.{arith}
use lib.ListN.{length, take, drop, replicate, length-replicate}
use Rattle.field.specs.Prime.{Prime}
use Rattle.field.specs.Element.{Elem, of, words}
use Rattle.field.proofs.Words.{of_results}
pub use Rattle.domain.proofs.LentWords.{part_length, filled_within, filled_part, filled_length}

module _ {q : Prime} where
  -- the elements of words that were computed in the first n entries of an array
  pub of_filled : (n : ℕ) (d : List ℕ) → n ≤ length d → (e : List ℕ) → length e ≡ length (take n d) → (l : List (Elem q)) → e ≡ words l
      → map of (take n (e ++ drop n d)) ≡ l
  of_filled n d within e kept l made = of_results l (filled_part n d within e kept ∙ made)

-- a bound of a part's length from that of its number
pub part_order : {m m' n : ℕ} → m ≡ m' → m ≤ n → m' ≤ n
part_order e le = omega arith

pub parts_order : {m n m' n' : ℕ} → m ≡ m' → n ≡ n' → m ≤ n → m' ≤ n'
parts_order e d le = omega arith

-- a part of n + 1 entries
module _ (n : ℕ) {m : ℕ} (e : n + 1 ≡ m) where
  pub above_one : 0 < n → 1 < m
  above_one positive = omega arith

  pub one_less : m - 1 ≡ n
  one_less = omega arith

-- an array of s zeros, as it is made; and after its first n words were lent and came back as l
abbrev pub array : ℕ → List ℕ
array s = replicate s 0

abbrev pub returned : ℕ → ℕ → List ℕ → List ℕ
returned s n l = l ++ drop n (array s)

module _ (s : ℕ) {n : ℕ} (fits : n ≤ s) where
  within : n ≤ length (array s)
  within = omega (arith, length-replicate {A = ℕ} s 0)

  pub lent_length : n ≡ length (take n (array s))
  lent_length = part_length n (array s) within

  module _ (l : List ℕ) (kept : length l ≡ length (take n (array s))) where
    pub back_holds : n ≤ length (returned s n l)
    back_holds = filled_within n (array s) within l kept

    pub back_length : n ≡ length (take n (returned s n l))
    back_length = filled_length n (array s) within l kept

    pub back_is : take n (returned s n l) ≡ l
    back_is = filled_part n (array s) within l kept

    pub back_list : {q : Prime} (f : List (Elem q)) → l ≡ words f → map of (take n (returned s n l)) ≡ f
    back_list f e = of_filled n (array s) within l kept f e
