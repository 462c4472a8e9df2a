-- Rows of the table of refusals as code makes them: a scan that stops at the first test that fails, what stands at a place of a
-- row, a row in parts, and the first refusal of several. Assumes nothing.
use mathlib.Core.Path.{◌≡◌, refl, sym, ap, ◌∙◌}
use mathlib.Core.Bool.{Bool, true, false}
use mathlib.Core.List.{List, [], ◌∷◌, ◌++◌, map, map-append}
use mathlib.Core.Option.{Option, none, some}
use Prim.Native.Nat.{ℕ, zero, suc, ◌+◌, ◌≤◌, ◌<◌, min}
use native.Mathlib.Omega.{arith}
use lib.Dec.{ltb}
use lib.ListN.{length, drop, get_or, length-map, drop_of_length-le}
use lib.Seq.{drop-cons}
use Rattle.field.specs.Prime.{Prime}
use Rattle.protocol.specs.Refusals.{Refusal, first, refuse, pairs, word_refusal}

-- the tests before place i pass: the row is what the rest of it says
unfoldable pub Passed : ℕ → ℕ → List Bool → ℕ → Type 0
Passed number n tests i = refuse number n tests ≡ refuse number (n + i) (drop i tests)

module _ (number n : ℕ) (tests : List Bool) where
  pub passed_none : Passed number n tests 0
  unfolding Passed
  passed_none = let e : n ≡ n + 0 = omega arith in ap (λ k. refuse number k tests) e

  module _ (i : ℕ) (before : Passed number n tests i) where
    pub passed_end : length tests ≤ i → refuse number n tests ≡ none
    unfolding Passed
    passed_end past = before ∙ ap (refuse number (n + i)) (drop_of_length-le tests past)

    -- d stands for a test past the end, and is never read
    module _ (within : i < length tests) (d : Bool) where
      here : {t : Bool} → get_or tests i d ≡ t → refuse number n tests ≡ refuse number (n + i) (t ∷ drop (suc i) tests)
      unfolding Passed
      here e =
          before ∙ ap (refuse number (n + i)) (drop-cons tests i d within)
          ∙ ap (λ t. refuse number (n + i) (t ∷ drop (suc i) tests)) e

      pub passed_turn : get_or tests i d ≡ true → Passed number n tests (i + 1)
      unfolding Passed
      passed_turn passes =
          let e : suc i ≡ i + 1 = omega arith in
          let f : suc (n + i) ≡ n + suc i = omega arith in
          here passes ∙ ap (λ k. refuse number k (drop (suc i) tests)) f ∙ ap (λ k. refuse number (n + k) (drop k tests)) e

      -- the code's answer names the place
      pub passed_stop : (place : ℕ) → place ≡ n + i → get_or tests i d ≡ false
          → some (record { number = number; position = place }) ≡ refuse number n tests
      passed_stop place e fails = sym (here fails ∙ ap (λ k. some (record { number = number; position = k })) (sym e))

-- what stands at a place of a row that is a test of each member, or of each pair of members
pub map_at : {S T : Type 0} (f : S → T) (l : List S) (i : ℕ) (d : S) (z : T) → i < length l → get_or (map f l) i z ≡ f (get_or l i d)
map_at f [] i d z h = absurd (omega arith)
map_at f (x ∷ l) zero d z h = refl
map_at f (x ∷ l) (suc i) d z h = map_at f l i d z (omega arith)

module _ {S T : Type 0} (t : S → T → Bool) where
  pub length_pairs : (l : List S) (m : List T) → length (pairs t l m) ≡ min (length l) (length m)
  length_pairs [] m = omega arith
  length_pairs (x ∷ l) [] = omega arith
  length_pairs (x ∷ l) (y ∷ m) = omega (arith, length_pairs l m)

  pub pairs-at : (l : List S) (m : List T) (i : ℕ) (d : S) (e : T) (z : Bool) → i < length l → i < length m
      → get_or (pairs t l m) i z ≡ t (get_or l i d) (get_or m i e)
  pairs-at [] m i d e z h k = absurd (omega arith)
  pairs-at (x ∷ l) [] i d e z h k = absurd (omega arith)
  pairs-at (x ∷ l) (y ∷ m) zero d e z h k = refl
  pairs-at (x ∷ l) (y ∷ m) (suc i) d e z h k = pairs-at l m i d e z (omega arith) (omega arith)

pub first_only : (o : Option Refusal) → first (o ∷ []) ≡ o
first_only none = refl
first_only (some r) = refl

-- the rows after the first, taken together
pub first_nested : (o : Option Refusal) (l : List (Option Refusal)) → first (o ∷ first l ∷ []) ≡ first (o ∷ l)
first_nested none l = first_only (first l)
first_nested (some r) l = refl

-- the first of several in two parts
pub first_append : (l m : List (Option Refusal)) → first (l ++ m) ≡ first (first l ∷ first m ∷ [])
first_append [] m = sym (first_only (first m))
first_append (none ∷ l) m = first_append l m
first_append (some r ∷ l) m = refl

-- the rows before the last, taken together
pub first-front : (l m : List (Option Refusal)) → first (first l ∷ m) ≡ first (l ++ m)
first-front [] m = refl
first-front (none ∷ l) m = first-front l m
first-front (some r ∷ l) m = refl

pub first_before_last : (l : List (Option Refusal)) (o : Option Refusal) → first (l ++ (o ∷ [])) ≡ first (first l ∷ o ∷ [])
first_before_last l o = first_append l (o ∷ []) ∙ ap (λ u. first (first l ∷ u ∷ [])) (first_only o)

-- early returns: a row that refuses, and one that leaves it to the next
pub first_stop : {r : Refusal} {o : Option Refusal} (l : List (Option Refusal)) → o ≡ some r → first (o ∷ l) ≡ some r
first_stop l e = ap (λ o. first (o ∷ l)) e

pub first_pass : {o : Option Refusal} (next : Option Refusal) → o ≡ none → first (o ∷ next ∷ []) ≡ next
first_pass next e = ap (λ o. first (o ∷ next ∷ [])) e ∙ first_only next

-- a row in two parts: the second is counted on from the first
pub refuse_append : (number n : ℕ) (l m : List Bool)
    → refuse number n (l ++ m) ≡ first (refuse number n l ∷ refuse number (n + length l) m ∷ [])
refuse_append number n [] m =
    let e : n ≡ n + 0 = omega arith in
    ap (λ k. refuse number k m) e ∙ sym (first_only (refuse number (n + 0) m))
refuse_append number n (true ∷ l) m =
    let e : suc n + length l ≡ n + suc (length l) = omega arith in
    refuse_append number (suc n) l m ∙ ap (λ k. first (refuse number (suc n) l ∷ refuse number k m ∷ [])) e
refuse_append number n (false ∷ l) m = refl

-- the parts of a row that is a test of each member
pub refuse-map_append : {T : Type 0} (number n : ℕ) (test : T → Bool) (l m : List T)
    → refuse number n (map test (l ++ m)) ≡ first (refuse number n (map test l) ∷ refuse number (n + length l) (map test m) ∷ [])
refuse-map_append number n test l m =
    ap (refuse number n) (map-append test l m) ∙ refuse_append number n (map test l) (map test m)
    ∙ ap (λ k. first (refuse number n (map test l) ∷ refuse number (n + k) (map test m) ∷ [])) (length-map l test)

-- a row in three parts, whose places are counted by the caller
pub refuse-three : (number : ℕ) (l m k : List Bool) (second third : ℕ) → second ≡ length l → third ≡ length l + length m
    → refuse number 0 (l ++ (m ++ k)) ≡ first (refuse number 0 l ∷ refuse number second m ∷ refuse number third k ∷ [])
refuse-three number l m k second third e f =
    let at : 0 + length l ≡ second = omega arith in
    let on : second + length m ≡ third = omega arith in
    refuse_append number 0 l (m ++ k)
    ∙ ap (λ n. first (refuse number 0 l ∷ refuse number n (m ++ k) ∷ [])) at
    ∙ ap (λ o. first (refuse number 0 l ∷ o ∷ [])) (refuse_append number second m k)
    ∙ first_nested (refuse number 0 l) (refuse number second m ∷ refuse number (second + length m) k ∷ [])
    ∙ ap (λ n. first (refuse number 0 l ∷ refuse number second m ∷ refuse number n k ∷ [])) on

-- 6, where the code compares with the value of the prime
pub word_row : (q : Prime) {p : ℕ} → q.p ≡ p → (ws : List ℕ) → refuse 6 0 (map (λ w. ltb w p) ws) ≡ word_refusal q ws
unfolding word_refusal
word_row q e ws = sym (ap (λ p. refuse 6 0 (map (λ w. ltb w p) ws)) e)
