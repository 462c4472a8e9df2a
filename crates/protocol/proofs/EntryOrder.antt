-- The order of entries by row and then column: what a list that rises along it tells, and entries put in and taken out. Assumes nothing.
use mathlib.Core.Path.{◌≡◌, refl, sym, ap, ap₂, subst, ◌∙◌}
use mathlib.Core.Bool.{Bool, true, false, not, ◌&&◌, ◌||◌, true≢false, or-true}
use mathlib.Core.Logic.{inl, inr}
use mathlib.Core.List.{List, [], ◌∷◌, ◌++◌, append-nil, append_assoc}
use Prim.Native.Nat.{ℕ, suc, ◌+◌, ◌-◌, ◌≤◌, ◌<◌}
use native.Mathlib.Omega.{arith}
use native.Mathlib.Decide.{ℕ_discrete}
use lib.Dec.{eqb, ltb}
use lib.ListN.{length, get_or, length-append, get_or-append}
use lib.Seq.{get_or-append-add}
use borrow.Author.Tests.{lt-ltb, eq-eqb, eqb-true, not-true, not-false}
use Rattle.algebra.specs.Lists.{pick, keep, any}
use Rattle.algebra.specs.Counting.{All}
use Rattle.algebra.proofs.Counting.{all_map, all_map₂, append_all, all_append, all-at}
use Rattle.algebra.proofs.Keeping.{keep_one, keep-not, keep_append, keep-none, keep_all, keep-within, keep_swap, kept_pass, kept-all, length-keep_both, test_fails, any_none, none_any, all-keep_both}
use Rattle.protocol.specs.Circuit.{Entry}
use Rattle.protocol.specs.Refusals.{rises}
use Rattle.protocol.specs.Growing.{Rise, stands_at, entries_with, entries_without}
use Rattle.protocol.proofs.RefusalLaws.{and-true}
use Rattle.protocol.proofs.AdmissionLaws.{Before, Rising, rises-true}

-- the order, and the test for it
pub before_trans : (d e f : Entry) → Before d e → Before e f → Before d f
before_trans d e f (inl a) (inl b) = inl (omega arith)
before_trans d e f (inl a) (inr b) = inl (omega (arith, b.0))
before_trans d e f (inr a) (inl b) = inl (omega (arith, a.0))
before_trans d e f (inr a) (inr b) = inr (a.0 ∙ b.0, omega (arith, a.1, b.1))

before_self : (e : Entry) → ¬ Before e e
before_self e (inl a) = omega arith
before_self e (inr a) = omega (arith, a.1)

pub true-rises : (d e : Entry) → Before d e → rises d e ≡ true
unfolding rises
true-rises d e (inl a) = ap (λ (b : Bool). b || (eqb d.row e.row && ltb d.column e.column)) (lt-ltb d.row e.row a)
true-rises d e (inr a) = rw (eq-eqb d.row e.row a.0, lt-ltb d.column e.column a.1) (or-true (ltb d.row e.row))

pub fails_not_before : (d e : Entry) → rises d e ≡ false → ¬ Before d e
fails_not_before d e fails before = true≢false (sym (true-rises d e before) ∙ fails)

-- in a rising list the first stands before all others, and the others rise; and back
pub rising_head : (d : Entry) (es : List Entry) → Rising (d ∷ es) → All (Before d) es
rising_head d [] rising = tt
rising_head d (e ∷ es) rising = (rising.0, all_map (λ f. before_trans d e f rising.0) es (rising_head e es rising.1))

pub rising_tail : (d : Entry) (es : List Entry) → Rising (d ∷ es) → Rising es
rising_tail d [] rising = tt
rising_tail d (e ∷ es) rising = rising.1

pub rising_cons : (d : Entry) (es : List Entry) → All (Before d) es → Rising es → Rising (d ∷ es)
rising_cons d [] before rising = tt
rising_cons d (e ∷ es) before rising = (before.0, rising)

pub rising_append : (l k : List Entry) → Rising l → Rising k → All (λ d. All (Before d) k) l → Rising (l ++ k)
rising_append [] k left right before = right
rising_append (d ∷ l) k left right before =
    rising_cons d (l ++ k) (all_append (Before d) l k (rising_head d l left) before.0)
    (rising_append l k (rising_tail d l left) right before.1)

-- what is kept of a rising list rises
pub kept_rising : (t : Entry → Bool) (es : List Entry) → Rising es → Rising (keep t es)
unfolding pick
kept_rising t [] rising = tt
kept_rising t (d ∷ es) rising = go (t d) (kept_rising t es (rising_tail d es rising))
  where
    go : (b : Bool) → Rising (keep t es) → Rising (pick b (d ∷ keep t es) (keep t es))
    go true rest = rising_cons d (keep t es) (kept-all t (Before d) es (rising_head d es rising)) rest
    go false rest = rest

-- a test that goes down along the order cuts a rising list in two
module _ (t : Entry → Bool) (down : (d e : Entry) → Before d e → t e ≡ true → t d ≡ true) where
  fails_after : (d : Entry) (es : List Entry) → t d ≡ false → All (Before d) es → All (λ e. t e ≡ false) es
  fails_after d es fails before = all_map (λ e b. test_fails (t e) (λ u. true≢false (sym (down d e b u) ∙ fails))) es before

  abbrev fails : Entry → Bool
  fails d = not (t d)

  pub split_by : (es : List Entry) → Rising es → es ≡ keep t es ++ keep (λ d. not (t d)) es
  split_by [] rising = refl
  split_by (d ∷ es) rising = go (t d) refl (split_by es (rising_tail d es rising))
    where
      go : (b : Bool) → t d ≡ b → es ≡ keep t es ++ keep fails es → d ∷ es ≡ keep t (d ∷ es) ++ keep fails (d ∷ es)
      go true u rest = rw (keep_one t es u, keep-not fails es (ap not u)) (ap (λ (l : List Entry). d ∷ l) rest)
      go false u rest =
          let none : keep t es ≡ [] = keep-none t es (fails_after d es u (rising_head d es rising)) in
          rw (keep-not t es u, none, keep_one fails es (ap not u)) (ap (λ (l : List Entry). d ∷ l) (rw none at rest))

  -- by place: those before the cut pass, those from it on fail
  module _ (es : List Entry) (rising : Rising es) (k : ℕ) (z : Entry) where
    pub cut_passes : k < length (keep t es) → t (get_or es k z) ≡ true
    cut_passes below =
        ap (λ (l : List Entry). t (get_or l k z)) (split_by es rising) ∙ ap t (get_or-append (keep t es) (keep fails es) z k below)
        ∙ all-at (λ d. t d ≡ true) (keep t es) (kept_pass t es) k z below

    pub cut_fails : length (keep t es) ≤ k → k < length es → t (get_or es k z) ≡ false
    cut_fails above below =
        let place : ℕ = k - length (keep t es) in
        let here : k ≡ length (keep t es) + place = omega arith in
        ap (λ (l : List Entry). t (get_or l k z)) (split_by es rising) ∙ ap (λ n. t (get_or (keep t es ++ keep fails es) n z)) here
        ∙ ap t (get_or-append-add (keep t es) (keep fails es) place z)
        ∙ not-true (t (get_or (keep fails es) place z))
        (all-at (λ d. not (t d) ≡ true) (keep fails es) (kept_pass fails es) place z (omega (arith, length-keep_both t es)))

-- the entries that stand before a place, and those that do not: a rising list is the former, then the latter
abbrev pub lower : Entry → List Entry → List Entry
lower e es = keep (λ d. rises d e) es

abbrev pub upper : Entry → List Entry → List Entry
upper e es = keep (λ d. not (rises d e)) es

lower_before : (e : Entry) (es : List Entry) → All (λ d. Before d e) (lower e es)
lower_before e es = all_map (λ d. rises-true d e) (lower e es) (kept_pass (λ d. rises d e) es)

upper_fails : (e : Entry) (es : List Entry) → All (λ d. rises d e ≡ false) (upper e es)
upper_fails e es = all_map (λ d. not-true (rises d e)) (upper e es) (kept_pass (λ d. not (rises d e)) es)

pub rises_down : (e c d : Entry) → Before c d → rises d e ≡ true → rises c e ≡ true
rises_down e c d before t = true-rises c e (before_trans c d e before (rises-true d e t))

pub split_at_place : (e : Entry) (es : List Entry) → Rising es → es ≡ lower e es ++ upper e es
split_at_place e = split_by (λ d. rises d e) (rises_down e)

-- an entry stands at row i, column j just where its row is i and its column is j
pub stands_true : (i j : ℕ) (d : Entry) → stands_at i j d ≡ true → (d.row ≡ i) × (d.column ≡ j)
stands_true i j d t =
    let u = and-true (eqb d.row i) (eqb d.column j) t in
    (eqb-true d.row i u.0, eqb-true d.column j u.1)

pub true_stands : (i j : ℕ) (d : Entry) → d.row ≡ i → d.column ≡ j → stands_at i j d ≡ true
true_stands i j d row column = ap₂ ◌&&◌ (eq-eqb d.row i row) (eq-eqb d.column j column)

-- one that stands before e does not stand at its place; one that stands neither before it nor at its place stands after it
before_not-at : (e d : Entry) → Before d e → stands_at e.row e.column d ≡ false
before_not-at e d before = test_fails (stands_at e.row e.column d) (λ t. go before (stands_true e.row e.column d t))
  where
    go : Before d e → ¬ ((d.row ≡ e.row) × (d.column ≡ e.column))
    go (inl a) same = omega (arith, same.0)
    go (inr a) same = omega (arith, a.1, same.1)

after_or_at : (e d : Entry) → ¬ Before d e → stands_at e.row e.column d ≡ false → Before e d
after_or_at e d not-before not_at = elim (ℕ_discrete d.row e.row) [
  | yes row ↦
      let not_left : ¬ (d.column < e.column) = λ l. not-before (inr (row, l)) in
      let not_same : ¬ (d.column ≡ e.column) = λ column. true≢false (sym (true_stands e.row e.column d row column) ∙ not_at) in
      inr (sym row, omega arith)
  | no row ↦ let not-above : ¬ (d.row < e.row) = λ l. not-before (inl l) in inl (omega arith)
]

-- what stands before an entry at the place of e stands before e
before_place : (e d f : Entry) → Before d f → stands_at e.row e.column f ≡ true → Before d e
before_place e d f before t = go before (stands_true e.row e.column f t)
  where
    go : Before d f → (f.row ≡ e.row) × (f.column ≡ e.column) → Before d e
    go (inl a) same = inl (omega (arith, same.0))
    go (inr a) same = inr (a.0 ∙ same.0, omega (arith, a.1, same.1))

-- an entry that stands at a place is the first that does not stand before it, and without it the others are left
pub taken_splits :
    (e : Entry) (es : List Entry) → Rising es → any (stands_at e.row e.column) es ≡ true
    → (d : Entry) × ((rest : List Entry) × ((upper e es ≡ d ∷ rest) × ((stands_at e.row e.column d ≡ true)
    × (entries_without e.row e.column es ≡ lower e es ++ rest))))
unfolding entries_without
taken_splits e es rising taken =
    go (upper e es) (split_at_place e es rising) refl (upper_fails e es) (kept_rising (λ d. not (rises d e)) es rising)
  where
    stands : Entry → Bool
    stands = stands_at e.row e.column

    below : All (λ d. stands d ≡ false) (lower e es)
    below = all_map (before_not-at e) (lower e es) (lower_before e es)

    none : (l : List Entry) → es ≡ lower e es ++ l → ¬ All (λ d. stands d ≡ false) l
    none l split h =
        let fail = all_append (λ d. stands d ≡ false) (lower e es) l below h in
        true≢false (sym taken ∙ ap (any stands) split ∙ any_none stands (lower e es ++ l) fail)

    go : (l : List Entry) → es ≡ lower e es ++ l → upper e es ≡ l → All (λ d. rises d e ≡ false) l → Rising l
        → (d : Entry) × ((rest : List Entry) × ((upper e es ≡ d ∷ rest) × ((stands d ≡ true)
        × (keep (λ d. not (stands d)) es ≡ lower e es ++ rest))))
    go [] split same fails rise = absurd (none [] split tt)
    go (d ∷ rest) split same fails rise =
        let after : All (λ f. stands f ≡ false) rest =
        all_map (λ f b. test_fails (stands f) (λ t. fails_not_before d e fails.0 (before_place e d f b t))) rest
        (rising_head d rest rise) in
        let here : stands d ≡ true =
        not-false (stands d) (test_fails (not (stands d)) (λ t. none (d ∷ rest) split (not-true (stands d) t, after))) in
        let others : Entry → Bool = λ f. not (stands f) in
        let kept : (l : List Entry) → All (λ f. stands f ≡ false) l → keep others l ≡ l =
        λ l h. keep_all others l (all_map (λ f. ap not) l h) in
        let left : keep others es ≡ lower e es ++ rest =
        ap (keep others) split ∙ keep_append others (lower e es) (d ∷ rest)
        ∙ ap₂ ◌++◌ (kept (lower e es) below) (keep-not others rest (ap not here) ∙ kept rest after) in
        (d, (rest, (same, (here, left))))

-- an entry put in: what all have, and how many there are
pub with_all : (P : Entry → Type 0) (e : Entry) (es : List Entry) → P e → All P es → All P (entries_with e es)
unfolding entries_with
with_all P e es here all =
    all_append P (lower e es) (e ∷ upper e es) (kept-all (λ d. rises d e) P es all) (here, kept-all (λ d. not (rises d e)) P es all)

all_with : (P : Entry → Type 0) (e : Entry) (es : List Entry) → All P (entries_with e es) → P e × All P es
unfolding entries_with
all_with P e es all =
    let (left, right) = append_all P (lower e es) (e ∷ upper e es) all in
    (right.0, all-keep_both (λ d. rises d e) P es left right.1)

pub length_with : (e : Entry) (es : List Entry) → length (entries_with e es) ≡ suc (length es)
unfolding entries_with
length_with e es = omega (arith, length-append (lower e es) (e ∷ upper e es), length-keep_both (λ d. rises d e) es)

-- entries rise with one more where none stands
pub with_rising :
    (e : Entry) (es : List Entry) → Rising es → any (stands_at e.row e.column) es ≡ false → Rising (entries_with e es)
unfolding entries_with
with_rising e es rising free =
    rising_append (lower e es) (e ∷ upper e es) (kept_rising (λ d. rises d e) es rising)
    (rising_cons e (upper e es) after (kept_rising (λ d. not (rises d e)) es rising))
    (all_map (λ d before. (before, all_map (λ f. before_trans d e f before) (upper e es) after)) (lower e es) (lower_before e es))
  where
    stands : Entry → Bool
    stands = stands_at e.row e.column

    after : All (Before e) (upper e es)
    after =
        all_map₂ (λ d fails. after_or_at e d (fails_not_before d e fails)) (upper e es) (upper_fails e es)
        (kept-all (λ d. not (rises d e)) (λ d. stands d ≡ false) es (none_any stands es free))

-- and without one
pub without_rising : (i j : ℕ) (es : List Entry) → Rising es → Rising (entries_without i j es)
unfolding entries_without
without_rising i j = kept_rising (λ d. not (stands_at i j d))

pub without_all : (P : Entry → Type 0) (i j : ℕ) (es : List Entry) → All P es → All P (entries_without i j es)
unfolding entries_without
without_all P i j = kept-all (λ d. not (stands_at i j d)) P

-- each entry of a rising list stands before the next
rising_back : (front back : List Entry) → Rising (front ++ back) → Rising back
rising_back [] back rising = rising
rising_back (d ∷ front) back rising = rising_back front back (rising_tail d (front ++ back) rising)

pub rising_rise : (es : List Entry) → Rising es → Rise es
rising_rise es rising front back d e split = true-rises d e (rising_back front (d ∷ (e ∷ back)) (subst Rising split rising)).0

-- two entries put in, of which the one stands before the other: that one last, and first
module _ (d e : Entry) (es : List Entry) (before : Before d e) where
  passes-next : (f : Entry) → rises f d ≡ true → rises f e ≡ true
  passes-next f t = rises_down e f d (rises-true f d t) (true-rises d e before)

  fails_next : (f : Entry) → rises f e ≡ false → rises f d ≡ false
  fails_next f fails = test_fails (rises f d) (λ t. true≢false (sym (passes-next f t) ∙ fails))

  with_before : entries_with d (entries_with e es) ≡ lower d es ++ (d ∷ (lower e (upper d es) ++ (e ∷ upper e es)))
  unfolding entries_with
  with_before =
      let others : Entry → Bool = λ f. not (rises f d) in
      let high : All (λ f. rises f d ≡ false) (e ∷ upper e es) =
      (fails_next e (test_fails (rises e e) (λ t. before_self e (rises-true e e t))), all_map fails_next (upper e es) (upper_fails e es)) in
      ap₂ (λ (l k : List Entry). l ++ (d ∷ k))
      (keep_append (λ f. rises f d) (lower e es) (e ∷ upper e es)
      ∙ ap₂ ◌++◌ (keep-within (λ f. rises f d) (λ f. rises f e) passes-next es) (keep-none (λ f. rises f d) (e ∷ upper e es) high)
      ∙ append-nil (lower d es))
      (keep_append others (lower e es) (e ∷ upper e es)
      ∙ ap₂ ◌++◌ (keep_swap others (λ f. rises f e) es) (keep_all others (e ∷ upper e es) (all_map (λ f. ap not) (e ∷ upper e es) high)))

  with_after : entries_with e (entries_with d es) ≡ lower d es ++ (d ∷ (lower e (upper d es) ++ (e ∷ upper e es)))
  unfolding entries_with
  with_after =
      let others : Entry → Bool = λ f. not (rises f e) in
      let low : All (λ f. rises f e ≡ true) (lower d es) = all_map passes-next (lower d es) (kept_pass (λ f. rises f d) es) in
      let here : rises d e ≡ true = true-rises d e before in
      ap₂ (λ (l k : List Entry). l ++ (e ∷ k))
      (keep_append (λ f. rises f e) (lower d es) (d ∷ upper d es)
      ∙ ap₂ ◌++◌ (keep_all (λ f. rises f e) (lower d es) low) (keep_one (λ f. rises f e) (upper d es) here))
      (keep_append others (lower d es) (d ∷ upper d es)
      ∙ ap₂ ◌++◌ (keep-none others (lower d es) (all_map (λ f. ap not) (lower d es) low)) (keep-not others (upper d es) (ap not here))
      ∙ keep-within others (λ f. not (rises f d)) (λ f t. ap not (fails_next f (not-true (rises f e) t))) es)
      ∙ append_assoc (lower d es) (d ∷ lower e (upper d es)) (e ∷ upper e es)

-- two entries put in in either order
pub with_with :
    (d e : Entry) (es : List Entry) → Rising es → any (stands_at d.row d.column) es ≡ false
    → any (stands_at e.row e.column) (entries_with d es) ≡ false
    → (any (stands_at e.row e.column) es ≡ false) × ((any (stands_at d.row d.column) (entries_with e es) ≡ false)
    × (entries_with e (entries_with d es) ≡ entries_with d (entries_with e es)))
with_with d e es rising free_d free-e =
    let (not_at, free) = all_with (λ f. at_e f ≡ false) d es (none_any at_e (entries_with d es) free-e) in
    let not-at-d : at_d e ≡ false =
    test_fails (at_d e) (λ t. let same = stands_true d.row d.column e t in
    true≢false (sym (true_stands e.row e.column d (sym same.0) (sym same.1)) ∙ not_at)) in
    let free-too : All (λ f. at_d f ≡ false) (entries_with e es) = with_all (λ f. at_d f ≡ false) e es not-at-d (none_any at_d es free_d) in
    (any_none at_e es free, (any_none at_d (entries_with e es) free-too, go not_at (rises d e) refl))
  where
    at_e : Entry → Bool
    at_e = stands_at e.row e.column

    at_d : Entry → Bool
    at_d = stands_at d.row d.column

    go : at_e d ≡ false → (b : Bool) → rises d e ≡ b → entries_with e (entries_with d es) ≡ entries_with d (entries_with e es)
    go not_at true t = let before = rises-true d e t in with_after d e es before ∙ sym (with_before d e es before)
    go not_at false t =
        let after = after_or_at e d (fails_not_before d e t) not_at in
        with_before e d es after ∙ sym (with_after e d es after)
