-- Demand 1 for blinding: the call, and the circuits that it lets through. Assumes nothing.
use mathlib.Core.Path.{◌≡◌, refl, sym, ap, ◌∙◌}
use mathlib.Core.Logic.{◌≢◌, ◌⊎◌, inl, inr, ◌↔◌}
use mathlib.Core.Bool.{Bool, true, false, not, ◌&&◌, true≢false}
use mathlib.Core.List.{List, [], ◌∷◌, ◌++◌, map}
use mathlib.Core.Option.{Option}
use Prim.Native.Nat.{ℕ, zero, suc, ◌+◌, ◌-◌, ◌*◌, ◌/◌, ◌%◌, ◌<◌}
use native.Mathlib.Omega.{arith}
use native.Mathlib.Nat.{div-add-mod', mul-mod_left}
use lib.Dec.{eqb, leb, ltb}
use lib.ListN.{length}
use Rattle.algebra.specs.Counting.{All, Distinct, MoreThan, Member}
use Rattle.algebra.specs.Lists.{pick, tabulate, keep, any}
use Rattle.algebra.proofs.Counting.{all_map, all_map₂, all-tabulate, distinct-tabulate}
use Rattle.algebra.proofs.ExactCounting.{exactly_at_most}
use Rattle.algebra.proofs.Keeping.{kept-all, kept_pass}
use Rattle.field.specs.Prime.{Prime}
use Rattle.domain.specs.Size.{max_size}
use Rattle.protocol.specs.Three.{MatrixName, A, B, C, Three, at, listed, map_three}
use Rattle.protocol.specs.Circuit.{Entry, Circuit}
use Rattle.protocol.specs.Refusals.{Refusal, first, pairs, constant_refusal}
use Rattle.protocol.specs.Admission.{circuit_refusals}
use Rattle.protocol.specs.Calls.{CircuitWords, circuit_of}
use Rattle.protocol.specs.Blinded.{private_columns, reserved_row, reserved_columns, stands_reserved, reservable, blinding_refusal, room_tests, roomy_list_tests, Blindable, blind_refusal, blind_call}
use Rattle.protocol.specs.Blinding.{Public}
use Rattle.protocol.specs.Table.{Row, row, Met, Answers}
use Rattle.protocol.specs.Rows.{equal_conditions, EntryList, entry_lists, constant_row, circuit_rows}
use Rattle.protocol.specs.Demand1.{Reservable, blinding_row, blind_rows}
use Rattle.protocol.proofs.TableLaws.{Tells, TellAll, Told, told, told_append, refuses, answers-first, tell_append}
use Rattle.protocol.proofs.TableLaws.{tells_equal, tells_less, tells_most, tells_both, tells_as, tells_not, tells_either, tells_some, tells_none}
use Rattle.protocol.proofs.RowTests.{tell_same, constant-told, circuit-told}

-- what is kept of a list without repetition has none, and has every member that passes
module _ {T : Type 0} (t : T → Bool) where
  kept-distinct : (l : List T) → Distinct l → Distinct (keep t l)
  unfolding pick
  kept-distinct [] d = tt
  kept-distinct (x ∷ l) d = go (t x) (kept-distinct l d.1)
    where
      go : (b : Bool) → Distinct (keep t l) → Distinct (pick b (x ∷ keep t l) (keep t l))
      go true rest = (kept-all t (λ y. y ≢ x) l d.0, rest)
      go false rest = rest

  kept_member : (x : T) (l : List T) → Member x l → t x ≡ true → Member x (keep t l)
  unfolding pick
  kept_member x [] m passes = m
  kept_member x (y ∷ l) m passes = go (t y) refl (kept_member x l) m
    where
      go : (b : Bool) → t y ≡ b → (Member x l → t x ≡ true → Member x (keep t l)) → Member x (y ∷ l) → Member x (pick b (y ∷ keep t l) (keep t l))
      go true e rest (inl same) = inl same
      go true e rest (inr later) = inr (rest later passes)
      go false e rest (inl same) = absurd (true≢false (sym passes ∙ ap t same ∙ e))
      go false e rest (inr later) = rest later passes

listed_member : {T : Type 0} (n : ℕ) (f : ℕ → T) (i : ℕ) → i < n → Member (f i) (tabulate n f)
listed_member zero f i below = absurd (omega arith)
listed_member (suc n) f zero below = inl refl
listed_member (suc n) f (suc i) below = inr (listed_member n (λ i. f (suc i)) i (omega arith))

module _ (c : Circuit) where
  abbrev s : ℕ
  s = c.|C| / c.|X|

  tells_private : (i : ℕ) → Tells (not (eqb (i % s) 0)) (¬ Public c i)
  tells_private i =
      tells_not (eqb (i % s) 0)
      (tells_as (eqb (i % s) 0) (tells_equal (i % s) 0) (λ none_left. (i / s, omega (arith, div-add-mod' i s)))
      (λ (k, multiple). ap (λ j. j % s) multiple ∙ mul-mod_left k s))

  -- three columns are listed exactly when there are three
  tells_columns : Tells (leb 3 (length (private_columns c))) (MoreThan 2 (λ i. (i < c.|C|) × (¬ Public c i)))
  unfolding private_columns
  tells_columns =
      let Private : ℕ → Type 0 = λ i. (i < c.|C|) × (¬ Public c i) in
      let test : ℕ → Bool = λ i. not (eqb (i % s) 0) in
      let columns : List ℕ = tabulate c.|C| (λ i. i) in
      let distinct : Distinct (private_columns c) = kept-distinct test columns (distinct-tabulate c.|C| (λ i. i) (λ i j l m e. e)) in
      let have : All Private (private_columns c) =
      all_map₂ (λ i below passes. (below, (tells_private i).0 passes)) (private_columns c)
      (kept-all test (λ i. i < c.|C|) columns (all-tabulate (λ i. i < c.|C|) c.|C| (λ i. i) (λ i l. l))) (kept_pass test columns) in
      tells_as (leb 3 (length (private_columns c))) (tells_most 3 (length (private_columns c)))
      (λ three. (private_columns c, distinct, have, omega arith))
      (λ (l, apart, all, more).
      omega (
        arith,
        exactly_at_most
            (record {
              members = private_columns c;
              distinct = distinct;
              count = refl;
              have = have;
              whole = λ i (below, private). kept_member test i columns (listed_member c.|C| (λ i. i) i below) ((tells_private i).1 private);
            })
            l apart all,
      ))

  -- an entry that stands neither in the reserved row nor in a reserved column
  tells_unreserved :
      (es : List Entry)
      → Tells (not (any (stands_reserved c) es)) (All (λ (e : Entry). (e.row ≢ reserved_row c) × ((M : MatrixName) → e.column ≢ at (reserved_columns c) M)) es)
  tells_unreserved es =
      let k : List ℕ = listed (reserved_columns c) in
      let InColumn : Entry → Type 0 = λ e. (j : ℕ) × (Member j k × (e.column ≡ j)) in
      let Stands : Entry → Type 0 = λ e. (e.row ≡ reserved_row c) ⊎ InColumn e in
      tells_as (not (any (stands_reserved c) es))
      (tells_none (stands_reserved c) Stands
      (λ e.
      tells_either (eqb e.row (reserved_row c)) (any (eqb e.column) k) (tells_equal e.row (reserved_row c))
      (tells_some (eqb e.column) (λ j. e.column ≡ j) (tells_equal e.column) k))
      es)
      (all_map
      (λ e apart. (
        λ row. apart (inl row),
        elim [
          | A ↦ λ same. apart (inr ((reserved_columns c).a, (inl refl, same)))
          | B ↦ λ same. apart (inr ((reserved_columns c).b, (inr (inl refl), same)))
          | C ↦ λ same. apart (inr ((reserved_columns c).c, (inr (inr (inl refl)), same)))
        ],
      )) es)
      (all_map outside es)
    where
      outside :
          (e : Entry) → (e.row ≢ reserved_row c) × ((M : MatrixName) → e.column ≢ at (reserved_columns c) M)
          → ¬ ((e.row ≡ reserved_row c) ⊎ ((j : ℕ) × (Member j (listed (reserved_columns c)) × (e.column ≡ j))))
      outside e (row, column) (inl same) = row same
      outside e (row, column) (inr (j, (inl first, same))) = column A (same ∙ first)
      outside e (row, column) (inr (j, (inr (inl second), same))) = column B (same ∙ second)
      outside e (row, column) (inr (j, (inr (inr (inl third)), same))) = column C (same ∙ third)
      outside e (row, column) (inr (j, (inr (inr (inr never)), same))) = never

  blinding_told : Told (blinding_refusal c) (blinding_row c)
  unfolding blinding_refusal
  blinding_told =
      let es : List Entry = c.matrices.a ++ (c.matrices.b ++ c.matrices.c) in
      let three : Bool = leb 3 (length (private_columns c)) in
      let free : Bool = not (any (stands_reserved c) es) in
      told 15 0 (reservable c ∷ []) (Reservable c ∷ []) (tells_both three free tells_columns (tells_unreserved es), tt)

tell_room : (c : Circuit) → TellAll (room_tests c) (map (λ (es : List Entry). length es < max_size) (listed c.matrices))
unfolding room_tests
tell_room c =
    let room : (es : List Entry) → Tells (ltb (length es) max_size) (length es < max_size) = λ es. tells_less (length es) max_size in
    (room c.matrices.a, (room c.matrices.b, (room c.matrices.c, tt)))

tell_roomy_lists : (c : CircuitWords) → TellAll (roomy_list_tests c) (entry_lists (max_size - 1) c)
unfolding roomy_list_tests
tell_roomy_lists c = (roomy c.matrices.a, (roomy c.matrices.b, (roomy c.matrices.c, tt)))
  where
    roomy : (l : List ℕ) → Tells (eqb (length l % 3) 0 && ltb (length l) (3 * max_size)) (EntryList (max_size - 1) l)
    roomy l =
        let whole : Bool = eqb (length l % 3) 0 in
        let fewer : Bool = ltb (length l) (3 * max_size) in
        tells_as (whole && fewer) (tells_both whole fewer (tells_equal (length l % 3) 0) (tells_less (length l) (3 * max_size)))
        (λ (e, below). (length l / 3, omega arith, omega arith)) (λ (k, most, e). (omega arith, omega arith))

module _ (q : Prime) where
  pub blindable :
      (c : Circuit)
      → Blindable q c
      ↔ Met (circuit_rows q c (map (λ (es : List Entry). length es < max_size) (listed c.matrices)) [] ++ (blinding_row c ∷ []))
  blindable c =
      let conditions : List (Type 0) = map (λ (es : List Entry). length es < max_size) (listed c.matrices) in
      let R =
      refuses (circuit_refusals q c (room_tests c) [] ++ (blinding_refusal c ∷ [])) (circuit_rows q c conditions [] ++ (blinding_row c ∷ []))
      (told_append (circuit_refusals q c (room_tests c) []) (blinding_refusal c ∷ []) (circuit_rows q c conditions []) (blinding_row c ∷ [])
      (circuit-told q c (room_tests c) conditions [] (tell_room c)) (blinding_told c, tt)) in
      (R.unrefused, R.met)

  module _ (c : CircuitWords) (z : List ℕ) (ρ lent : Three ℕ) (lentAssignment : ℕ) where
    abbrev due : List ℕ
    due = listed (map_three (λ l. length l + 3) c.matrices)

    abbrev conditions : List (Type 0)
    conditions =
        entry_lists (max_size - 1) c
        ++ ((length z ≡ c.|C|) ∷ (equal_conditions (listed lent) due ++ ((lentAssignment ≡ c.|C|) ∷ [])))

    abbrev late_rows : List Row
    late_rows = blinding_row (circuit_of c) ∷ constant_row z ∷ []

    pub blinds : Answers (blind_rows q c z ρ lent lentAssignment) (blind_call q c z ρ lent lentAssignment)
    unfolding blind_call blind_refusal
    blinds =
        let slices : List Bool = pairs eqb (listed lent) due ++ (eqb lentAssignment c.|C| ∷ []) in
        let tests : List Bool = roomy_list_tests c ++ (eqb (length z) c.|C| ∷ slices) in
        let late : List (Option Refusal) = blinding_refusal (circuit_of c) ∷ constant_refusal z ∷ [] in
        answers-first (circuit_refusals q (circuit_of c) tests (z ++ listed ρ) ++ late) (blind_rows q c z ρ lent lentAssignment) _
        (told_append (circuit_refusals q (circuit_of c) tests (z ++ listed ρ)) late (circuit_rows q (circuit_of c) conditions (z ++ listed ρ)) late_rows
        (circuit-told q (circuit_of c) tests conditions (z ++ listed ρ)
        (tell_append (roomy_list_tests c) (eqb (length z) c.|C| ∷ slices) (entry_lists (max_size - 1) c)
        ((length z ≡ c.|C|) ∷ (equal_conditions (listed lent) due ++ ((lentAssignment ≡ c.|C|) ∷ [])))
        (tell_roomy_lists c) (
          tells_equal (length z) c.|C|,
          tell_append (pairs eqb (listed lent) due) (eqb lentAssignment c.|C| ∷ []) (equal_conditions (listed lent) due) ((lentAssignment ≡ c.|C|) ∷ [])
              (tell_same (listed lent) due) (tells_equal lentAssignment c.|C|, tt),
        )))
        (blinding_told (circuit_of c), (constant-told z, tt)))
