-- Entries as flat words: the words of each, and the tests of each. Assumes nothing.
use mathlib.Core.Path.{◌≡◌, refl, ap, ap₂, ◌∙◌, subst}
use mathlib.Core.Bool.{Bool, true, false, not, ◌&&◌}
use mathlib.Core.List.{List, [], ◌∷◌, map}
use Prim.Native.Nat.{ℕ, zero, suc, ◌+◌, ◌-◌, ◌*◌, ◌/◌, ◌%◌, ◌<◌}
use native.Mathlib.Omega.{arith}
use lib.Dec.{eqb, ltb}
use lib.ListN.{length, get_or, length-map}
use Rattle.algebra.specs.Counting.{All}
use Rattle.algebra.proofs.Counting.{all-at}
use Rattle.protocol.specs.Circuit.{Entry, Circuit}
use Rattle.protocol.specs.Refusals.{rises, fits, entry_tests_after, entry_tests}
use Rattle.protocol.specs.Calls.{entries_of}
use Rattle.protocol.proofs.EntryLists.{length-entries_of}
use Rattle.protocol.proofs.Rows.{map_at}
use Rattle.circuit.specs.Given.{entry_words, Within}

-- past the first entry
words_later : (x y z : ℕ) (l : List ℕ) (i : ℕ) → entry_words l i ≡ entry_words (x ∷ (y ∷ (z ∷ l))) (suc i)
words_later x y z l i =
    let e0 : suc (suc (suc (3 * i))) ≡ 3 * suc i = omega arith in
    let e1 : suc (suc (suc (3 * i + 1))) ≡ 3 * suc i + 1 = omega arith in
    let e2 : suc (suc (suc (3 * i + 2))) ≡ 3 * suc i + 2 = omega arith in
    let at : ℕ → ℕ = λ k. get_or (x ∷ (y ∷ (z ∷ l))) k 0 in λ t.
    record { row = ap at e0 t; column = ap at e1 t; value = ap at e2 t }

pub entry_at : (l : List ℕ) (i : ℕ) (d : Entry) → i < length (entries_of l) → get_or (entries_of l) i d ≡ entry_words l i
unfolding entries_of
entry_at [] i d h = absurd (omega arith)
entry_at (x ∷ []) i d h = absurd (omega arith)
entry_at (x ∷ (y ∷ [])) i d h = absurd (omega arith)
entry_at (x ∷ (y ∷ (z ∷ l))) zero d h = refl
entry_at (x ∷ (y ∷ (z ∷ l))) (suc i) d h =
    entry_at l i d (omega arith) ∙ words_later x y z l i

-- the test of one entry, by the sizes alone
pub fits_by : (k : Circuit) (e : Entry) {r c : ℕ} → k.|R| ≡ r → k.|C| ≡ c → fits k e ≡ (ltb e.row r && ltb e.column c && not (eqb e.value 0))
unfolding fits
fits_by k e er ec = ap₂ (λ (r c : ℕ). ltb e.row r && ltb e.column c && not (eqb e.value 0)) er ec

-- the tests of the entries
length-after : (k : Circuit) (d : Entry) (es : List Entry) → length (entry_tests_after k d es) ≡ length es
unfolding entry_tests_after
length-after k d [] = refl
length-after k d (e ∷ es) = ap suc (length-after k e es)

pub length-entry_tests : (k : Circuit) (es : List Entry) → length (entry_tests k es) ≡ length es
unfolding entry_tests
length-entry_tests k [] = refl
length-entry_tests k (e ∷ es) = ap suc (length-after k e es)

after-at : (k : Circuit) (d : Entry) (es : List Entry) (i : ℕ) (z : Entry) → i < length es
    → get_or (entry_tests_after k d es) i true ≡ (fits k (get_or es i z) && rises (get_or (d ∷ es) i z) (get_or es i z))
unfolding entry_tests_after
after-at k d [] i z h = absurd (omega arith)
after-at k d (e ∷ es) zero z h = refl
after-at k d (e ∷ es) (suc i) z h = after-at k e es i z (omega arith)

pub test_first : (k : Circuit) (es : List Entry) (z : Entry) → 0 < length es → get_or (entry_tests k es) 0 true ≡ fits k (get_or es 0 z)
unfolding entry_tests
test_first k [] z h = absurd (omega arith)
test_first k (e ∷ es) z h = refl

pub test_later : (k : Circuit) (es : List Entry) (i : ℕ) (z : Entry) → suc i < length es
    → get_or (entry_tests k es) (suc i) true ≡ (fits k (get_or es (suc i) z) && rises (get_or es i z) (get_or es (suc i) z))
unfolding entry_tests
test_later k [] i z h = absurd (omega arith)
test_later k (e ∷ es) i z h = after-at k e es i z (omega arith)

-- the tests of the values
pub values-count : (p : ℕ) (l : List ℕ) → length (map (λ w. ltb w p) (map (λ (e : Entry). e.value) (entries_of l))) ≡ length l / 3
values-count p l = length-map (map (λ (e : Entry). e.value) (entries_of l)) (λ w. ltb w p)
    ∙ length-map (entries_of l) (λ (e : Entry). e.value) ∙ length-entries_of l

pub value_test : (p : ℕ) (l : List ℕ) (i : ℕ) → i < length l / 3
    → get_or (map (λ w. ltb w p) (map (λ (e : Entry). e.value) (entries_of l))) i true ≡ ltb (get_or l (3 * i + 2) 0) p
value_test p l i h =
    let within : i < length (entries_of l) = omega (arith, length-entries_of l) in
    map_at (λ w. ltb w p) (map (λ (e : Entry). e.value) (entries_of l)) i 0 true (omega (arith, length-map (entries_of l) (λ (e : Entry). e.value)))
    ∙ ap (λ w. ltb w p)
    (map_at (λ (e : Entry). e.value) (entries_of l) i (entry_words l i) 0 within ∙ ap (λ (e : Entry). e.value) (entry_at l i (entry_words l i) within))

pub entry-words-within : (l : List ℕ) (i : ℕ) → i < length (entries_of l) → 3 * i + 2 < length l
entry-words-within l i h = omega (arith, length-entries_of l)

-- the test of entry i, from its words and those of the entry before it
module _ (k : Circuit) (l : List ℕ) where
  abbrev es : List Entry
  es = entries_of l

  first_test : 0 < length es → get_or (entry_tests k es) 0 true ≡ fits k (entry_words l 0)
  first_test within = test_first k es (entry_words l 0) within ∙ ap (fits k) (entry_at l 0 (entry_words l 0) within)

  later_test : (i : ℕ) → suc i < length es
      → get_or (entry_tests k es) (suc i) true ≡ (fits k (entry_words l (suc i)) && rises (entry_words l i) (entry_words l (suc i)))
  later_test i within =
      let d : Entry = entry_words l i in
      test_later k es i d within
      ∙ ap₂ (λ (a e : Entry). fits k e && rises a e) (entry_at l i d (omega arith)) (entry_at l (suc i) d within)

  pub entry_misfits : (i : ℕ) → i < length es → fits k (entry_words l i) ≡ false → get_or (entry_tests k es) i true ≡ false
  entry_misfits zero within misfit = first_test within ∙ misfit
  entry_misfits (suc i) within misfit = later_test i within ∙ ap (λ (b : Bool). b && rises (entry_words l i) (entry_words l (suc i))) misfit

  pub entry_first : (i : ℕ) → i < length es → fits k (entry_words l i) ≡ true → i ≡ 0 → get_or (entry_tests k es) i true ≡ true
  entry_first zero within fit e = first_test within ∙ fit
  entry_first (suc i) within fit e = absurd (omega arith)

  pub entry_later : (i : ℕ) → i < length es → fits k (entry_words l i) ≡ true → (i ≡ 0 → ⊥)
      → get_or (entry_tests k es) i true
      ≡ rises (record { row = get_or l (3 * i - 3) 0; column = get_or l (3 * i - 2) 0; value = 0 })
      (record { row = get_or l (3 * i) 0; column = get_or l (3 * i + 1) 0; value = 0 })
  unfolding rises
  entry_later zero within fit positive = absurd (positive refl)
  entry_later (suc i) within fit positive =
      let er : 3 * i ≡ 3 * suc i - 3 = omega arith in
      let ec : 3 * i + 1 ≡ 3 * suc i - 2 = omega arith in
      let e : Entry = entry_words l (suc i) in
      later_test i within ∙ ap (λ (b : Bool). b && rises (entry_words l i) e) fit
      ∙ ap₂ (λ (m n : ℕ). rises (record { row = get_or l m 0; column = get_or l n 0; value = 0 }) e) er ec

-- what every entry has, each entry's words have
pub entry-within : (r c : ℕ) (l : List ℕ) → All (Within r c) (entries_of l) → (i : ℕ) → i < length l / 3 → Within r c (entry_words l i)
entry-within r c l h i within =
    let below : i < length (entries_of l) = omega (arith, length-entries_of l) in
    subst (Within r c) (entry_at l i (entry_words l i) below) (all-at (Within r c) (entries_of l) h i (entry_words l i) below)

-- in a list of whole entries the words after the last entry are zeros
pub entry_or_zeros : (l : List ℕ) (i : ℕ) → length l % 3 ≡ 0
    → get_or (entries_of l) i (record { row = 0; column = 0; value = 0 }) ≡ entry_words l i
unfolding entries_of
entry_or_zeros [] i whole = refl
entry_or_zeros (x ∷ []) i whole = absurd (omega arith)
entry_or_zeros (x ∷ (y ∷ [])) i whole = absurd (omega arith)
entry_or_zeros (x ∷ (y ∷ (z ∷ l))) zero whole = refl
entry_or_zeros (x ∷ (y ∷ (z ∷ l))) (suc i) whole = entry_or_zeros l i (omega arith) ∙ words_later x y z l i
