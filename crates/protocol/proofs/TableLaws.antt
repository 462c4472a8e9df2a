-- Tests that tell conditions, and rows of tests whose first refusal is the first of the rows of conditions. Assumes nothing.
use mathlib.Core.Path.{◌≡◌, refl, sym, ap, subst}
use mathlib.Core.Bool.{Bool, true, false, not, ◌&&◌, ◌||◌}
use mathlib.Core.Logic.{◌⊎◌, inl, inr}
use mathlib.Core.List.{List, [], ◌∷◌, ◌++◌, map}
use mathlib.Core.Option.{Option, none, some}
use Prim.Native.Nat.{ℕ, zero, suc, ◌<◌, ◌≤◌}
use native.Mathlib.Omega.{arith}
use lib.Dec.{eqb, leb, ltb}
use borrow.Author.Tests.{eqb-true, eq-eqb, ltb-true, lt-ltb, leb-true, le-leb}
use Rattle.algebra.specs.Counting.{All, Member}
use Rattle.algebra.specs.Lists.{tabulate, any}
use Rattle.protocol.specs.Refusals.{Refusal, judged, first, refuse, pairs}
use Rattle.protocol.specs.Table.{Row, row, Hold, Met, FirstFailing, FirstRefusal, Refuses, Answers, for_each, for_pairs}
use Rattle.protocol.proofs.RefusalLaws.{and-true, judged-done, judged-refused}

-- a test that passes exactly when the condition holds
abbrev pub Tells : Bool → Type 0 → Type 0
Tells t P = (t ≡ true → P) × (P → t ≡ true)

-- tests for conditions, one for each
abbrev pub TellAll : List Bool → List (Type 0) → Type 0
TellAll [] [] = Unit {0}
TellAll [] (P ∷ k) = ⊥
TellAll (t ∷ l) [] = ⊥
TellAll (t ∷ l) (P ∷ k) = Tells t P × TellAll l k

-- what refuses, for a row of conditions
pub record Told (o : Option Refusal) (r : Row) : Type 0 where
  pub passes : o ≡ none → Hold r.conditions
  pub holds : Hold r.conditions → o ≡ none
  pub fails : (f : Refusal) → o ≡ some f → (f.number ≡ r.number) × FirstFailing r.position r.conditions f.position
  pub first_fails : (f : Refusal) → f.number ≡ r.number → FirstFailing r.position r.conditions f.position → o ≡ some f

abbrev pub ToldAll : List (Option Refusal) → List Row → Type 0
ToldAll [] [] = Unit {0}
ToldAll [] (r ∷ rows) = ⊥
ToldAll (o ∷ l) [] = ⊥
ToldAll (o ∷ l) (r ∷ rows) = Told o r × ToldAll l rows

-- true is not false, none is not some, and a result is no refusal
true-not-false : true ≡ false → ⊥
true-not-false e = let z : ◌≡◌ {A = ℕ} 0 1 = cc in omega arith

none-not-some : {T : Type 0} {x : T} → none ≡ some x → ⊥
none-not-some e = let z : ◌≡◌ {A = ℕ} 0 1 = cc in omega arith

some_same : {T : Type 0} {x y : T} → some x ≡ some y → x ≡ y
some_same e = cc

-- a row of tests
module _ (number : ℕ) where
  tests_pass : (n : ℕ) (tests : List Bool) (conditions : List (Type 0)) → TellAll tests conditions → refuse number n tests ≡ none → Hold conditions
  tests_pass n [] [] told e = tt
  tests_pass n [] (P ∷ k) told e = absurd told
  tests_pass n (t ∷ l) [] told e = absurd told
  tests_pass n (true ∷ l) (P ∷ k) told e = (told.0.0 refl, tests_pass (suc n) l k told.1 e)
  tests_pass n (false ∷ l) (P ∷ k) told e = absurd (none-not-some (sym e))

  tests_hold : (n : ℕ) (tests : List Bool) (conditions : List (Type 0)) → TellAll tests conditions → Hold conditions → refuse number n tests ≡ none
  tests_hold n [] [] told h = refl
  tests_hold n [] (P ∷ k) told h = absurd told
  tests_hold n (t ∷ l) [] told h = absurd told
  tests_hold n (true ∷ l) (P ∷ k) told h = tests_hold (suc n) l k told.1 h.1
  tests_hold n (false ∷ l) (P ∷ k) told h = absurd (true-not-false (sym (told.0.1 h.0)))

  tests_fail :
      (n : ℕ) (tests : List Bool) (conditions : List (Type 0)) → TellAll tests conditions → (f : Refusal) → refuse number n tests ≡ some f
      → (f.number ≡ number) × FirstFailing n conditions f.position
  tests_fail n [] [] told f e = absurd (none-not-some e)
  tests_fail n [] (P ∷ k) told f e = absurd told
  tests_fail n (t ∷ l) [] told f e = absurd told
  tests_fail n (true ∷ l) (P ∷ k) told f e =
      let (same, later) = tests_fail (suc n) l k told.1 f e in (same, inr (told.0.0 refl, later))
  tests_fail n (false ∷ l) (P ∷ k) told f e =
      let same : record { number = number; position = n } ≡ f = some_same e in
      (sym (ap (λ (g : Refusal). g.number) same), inl (λ holds. true-not-false (sym (told.0.1 holds)), sym (ap (λ (g : Refusal). g.position) same)))

  first_failing_lem :
      (n : ℕ) (tests : List Bool) (conditions : List (Type 0)) → TellAll tests conditions → (f : Refusal) → f.number ≡ number
      → FirstFailing n conditions f.position → refuse number n tests ≡ some f
  first_failing_lem n [] [] told f same failing = absurd failing
  first_failing_lem n [] (P ∷ k) told f same failing = absurd told
  first_failing_lem n (t ∷ l) [] told f same failing = absurd told
  first_failing_lem n (true ∷ l) (P ∷ k) told f same (inl (fails, at)) = absurd (fails (told.0.0 refl))
  first_failing_lem n (true ∷ l) (P ∷ k) told f same (inr (holds, later)) = first_failing_lem (suc n) l k told.1 f same later
  first_failing_lem n (false ∷ l) (P ∷ k) told f same (inl (fails, at)) = λ i. some (record { number = sym same i; position = sym at i })
  first_failing_lem n (false ∷ l) (P ∷ k) told f same (inr (holds, later)) = absurd (true-not-false (sym (told.0.1 holds)))

pub told : (number n : ℕ) (tests : List Bool) (conditions : List (Type 0)) → TellAll tests conditions → Told (refuse number n tests) (row number n conditions)
told number n tests conditions all =
    record {
      passes = tests_pass number n tests conditions all;
      holds = tests_hold number n tests conditions all;
      fails = tests_fail number n tests conditions all;
      first_fails = first_failing_lem number n tests conditions all;
    }

-- rows, one after the other
rows-met : (l : List (Option Refusal)) (rows : List Row) → ToldAll l rows → Met rows → first l ≡ none
rows-met [] [] all h = refl
rows-met [] (r ∷ rows) all h = absurd all
rows-met (o ∷ l) [] all h = absurd all
rows-met (none ∷ l) (r ∷ rows) all h = rows-met l rows all.1 h.1
rows-met (some g ∷ l) (r ∷ rows) all h = absurd (none-not-some (sym (all.0.holds h.0)))

met-rows : (l : List (Option Refusal)) (rows : List Row) → ToldAll l rows → first l ≡ none → Met rows
met-rows [] [] all e = tt
met-rows [] (r ∷ rows) all e = absurd all
met-rows (o ∷ l) [] all e = absurd all
met-rows (none ∷ l) (r ∷ rows) all e = (all.0.passes refl, met-rows l rows all.1 e)
met-rows (some g ∷ l) (r ∷ rows) all e = absurd (none-not-some (sym e))

first_refuses : (l : List (Option Refusal)) (rows : List Row) → ToldAll l rows → (f : Refusal) → FirstRefusal rows f → first l ≡ some f
first_refuses [] [] all f failing = absurd failing
first_refuses [] (r ∷ rows) all f failing = absurd all
first_refuses (o ∷ l) [] all f failing = absurd all
first_refuses (none ∷ l) (r ∷ rows) all f (inl (same, failing)) = absurd (none-not-some (all.0.first_fails f same failing))
first_refuses (some g ∷ l) (r ∷ rows) all f (inl (same, failing)) = all.0.first_fails f same failing
first_refuses (none ∷ l) (r ∷ rows) all f (inr (holds, later)) = first_refuses l rows all.1 f later
first_refuses (some g ∷ l) (r ∷ rows) all f (inr (holds, later)) = absurd (none-not-some (sym (all.0.holds holds)))

refuses_first : (l : List (Option Refusal)) (rows : List Row) → ToldAll l rows → (f : Refusal) → first l ≡ some f → FirstRefusal rows f
refuses_first [] [] all f e = absurd (none-not-some e)
refuses_first [] (r ∷ rows) all f e = absurd all
refuses_first (o ∷ l) [] all f e = absurd all
refuses_first (none ∷ l) (r ∷ rows) all f e = inr (all.0.passes refl, refuses_first l rows all.1 f e)
refuses_first (some g ∷ l) (r ∷ rows) all f e = inl (all.0.fails f e)

pub told_append : (l k : List (Option Refusal)) (rows more : List Row) → ToldAll l rows → ToldAll k more → ToldAll (l ++ k) (rows ++ more)
told_append [] k [] more left right = right
told_append [] k (r ∷ rows) more left right = absurd left
told_append (o ∷ l) k [] more left right = absurd left
told_append (o ∷ l) k (r ∷ rows) more left right = (left.0, told_append l k rows more left.1 right)

pub refuses : (l : List (Option Refusal)) (rows : List Row) → ToldAll l rows → Refuses rows (first l)
refuses l rows all =
    record { met = rows-met l rows all; unrefused = met-rows l rows all; first = first_refuses l rows all; refused = refuses_first l rows all }

-- one row, and rows of which some are judged together
pub refuses_one : (o : Option Refusal) (r : Row) → Told o r → Refuses (r ∷ []) o
refuses_one o r one = subst (Refuses (r ∷ [])) (alone o) (refuses (o ∷ []) (r ∷ []) (one, tt))
  where
    alone : (o : Option Refusal) → first (o ∷ []) ≡ o
    alone none = refl
    alone (some f) = refl

pub first_together : (o : Option Refusal) (l k : List (Option Refusal)) → first (o ∷ (first l ∷ k)) ≡ first (o ∷ (l ++ k))
first_together (some f) l k = refl
first_together none [] k = refl
first_together none (none ∷ l) k = first_together none l k
first_together none (some f ∷ l) k = refl

-- the answer of a call that is judged by them
pub answers : {T : Type 0} (rows : List Row) (o : Option Refusal) (result : T) → Refuses rows o → Answers rows (judged o result)
answers rows o result R =
    record {
      result = result;
      met = λ h. ap (λ o. judged o result) (R.met h);
      done = λ other e. R.unrefused (judged-done o result e).0;
      first = λ f failing. ap (λ o. judged o result) (R.first f failing);
      refused = λ f e. R.refused f (judged-refused o result e);
    }

pub answers-first :
    {T : Type 0} (l : List (Option Refusal)) (rows : List Row) (result : T) → ToldAll l rows → Answers rows (judged (first l) result)
answers-first l rows result all = answers rows (first l) result (refuses l rows all)

-- tests of lists
pub tell_append :
    (l k : List Bool) (P Q : List (Type 0)) → TellAll l P → TellAll k Q → TellAll (l ++ k) (P ++ Q)
tell_append [] k [] Q left right = right
tell_append [] k (p ∷ P) Q left right = absurd left
tell_append (t ∷ l) k [] Q left right = absurd left
tell_append (t ∷ l) k (p ∷ P) Q left right = (left.0, tell_append l k P Q left.1 right)

pub tell_map : {T : Type 0} (test : T → Bool) (P : T → Type 0) → ((a : T) → Tells (test a) (P a)) → (l : List T) → TellAll (map test l) (map P l)
tell_map test P all [] = tt
tell_map test P all (a ∷ l) = (all a, tell_map test P all l)

pub tell_pairs :
    {S T : Type 0} (test : S → T → Bool) (P : S → T → Type 0) → ((a : S) (b : T) → Tells (test a b) (P a b)) → (l : List S) (k : List T)
    → TellAll (pairs test l k) (for_pairs P l k)
tell_pairs test P all [] k = tt
tell_pairs test P all (a ∷ l) [] = tt
tell_pairs test P all (a ∷ l) (b ∷ k) = (all a b, tell_pairs test P all l k)

pub tell_each : (n : ℕ) (test : ℕ → Bool) (P : ℕ → Type 0) → ((i : ℕ) → Tells (test i) (P i)) → TellAll (tabulate n test) (for_each n P)
tell_each zero test P all = tt
tell_each (suc n) test P all = (all 0, tell_each n (λ i. test (suc i)) (λ i. P (suc i)) (λ i. all (suc i)))

-- single tests
pub tells_equal : (m n : ℕ) → Tells (eqb m n) (m ≡ n)
tells_equal m n = (eqb-true m n, eq-eqb m n)

pub tells_less : (m n : ℕ) → Tells (ltb m n) (m < n)
tells_less m n = (ltb-true m n, lt-ltb m n)

pub tells_most : (m n : ℕ) → Tells (leb m n) (m ≤ n)
tells_most m n = (leb-true m n, le-leb m n)

pub tells_both : (s t : Bool) {P Q : Type 0} → Tells s P → Tells t Q → Tells (s && t) (P × Q)
tells_both s t left right = (
  λ e. let (a, b) = and-true s t e in (left.0 a, right.0 b),
  λ h. λ i. left.1 h.0 i && right.1 h.1 i,
)

-- a condition in other words
pub tells_as : (t : Bool) {P Q : Type 0} → Tells t P → (P → Q) → (Q → P) → Tells t Q
tells_as t told there back = (λ e. there (told.0 e), λ h. told.1 (back h))

-- a test that must fail
pub tells_not : (t : Bool) {P : Type 0} → Tells t P → Tells (not t) (¬ P)
tells_not true told = (λ e. absurd (true-not-false (sym e)), λ fails. absurd (fails (told.0 refl)))
tells_not false told = (λ e holds. true-not-false (sym (told.1 holds)), λ fails. refl)

-- one of two tests, some test of a list, and none
pub tells_either : (s t : Bool) {P Q : Type 0} → Tells s P → Tells t Q → Tells (s || t) (P ⊎ Q)
tells_either true t left right = (λ e. inl (left.0 refl), λ h. refl)
tells_either false t {P} {Q} left right = (λ e. inr (right.0 e), back)
  where
    back : P ⊎ Q → t ≡ true
    back (inl h) = absurd (true-not-false (sym (left.1 h)))
    back (inr h) = right.1 h

module _ {T : Type 0} (test : T → Bool) (P : T → Type 0) (tells : (a : T) → Tells (test a) (P a)) where
  pub tells_some : (l : List T) → Tells (any test l) ((a : T) × (Member a l × P a))
  tells_some [] = (λ e. absurd (true-not-false (sym e)), λ (a, (m, h)). absurd m)
  tells_some (x ∷ l) =
      tells_as (test x || any test l) (tells_either (test x) (any test l) (tells x) (tells_some l)) there back
    where
      there : P x ⊎ ((a : T) × (Member a l × P a)) → (a : T) × (Member a (x ∷ l) × P a)
      there (inl h) = (x, (inl refl, h))
      there (inr (a, (m, h))) = (a, (inr m, h))

      back : (a : T) × (Member a (x ∷ l) × P a) → P x ⊎ ((a : T) × (Member a l × P a))
      back (a, (inl e, h)) = inl (subst P e h)
      back (a, (inr m, h)) = inr (a, (m, h))

  pub tells_none : (l : List T) → Tells (not (any test l)) (All (λ a. ¬ P a) l)
  tells_none l =
      tells_as (not (any test l)) (tells_not (any test l) (tells_some l)) (there l) (back l)
    where
      there : (l : List T) → ¬ ((a : T) × (Member a l × P a)) → All (λ a. ¬ P a) l
      there [] empty = tt
      there (x ∷ l) empty = (λ h. empty (x, (inl refl, h)), there l (λ (a, (m, h)). empty (a, (inr m, h))))

      back : (l : List T) → All (λ a. ¬ P a) l → ¬ ((a : T) × (Member a l × P a))
      back [] h (a, (m, p)) = m
      back (x ∷ l) h (a, (inl e, p)) = h.0 (subst P e p)
      back (x ∷ l) h (a, (inr m, p)) = back l h.1 (a, (m, p))
