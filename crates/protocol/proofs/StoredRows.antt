-- The rows of a well-formed circuit in memory: where each begins, how many entries it has, the place of an entry in it and whether one
-- stands there, and its words; and memory with an entry more or less. Assumes nothing.
use mathlib.Core.Path.{◌≡◌, sym, ap, ap₂, ◌∙◌}
use mathlib.Core.Bool.{true, false, ◌&&◌, true≢false}
use mathlib.Core.List.{List, ◌∷◌, ◌++◌}
use Prim.Native.Nat.{ℕ, suc, ◌+◌, ◌-◌, ◌*◌, ◌<◌, ◌≤◌}
use native.Mathlib.Omega.{arith}
use native.Mathlib.Decide.{dec_lt}
use lib.Dec.{eqb, ltb}
use lib.ListN.{length, get_or, take, drop, take-append-drop}
use lib.Seq.{length-take-le}
use Rattle.algebra.specs.Lists.{any}
use Rattle.algebra.proofs.Counting.{all_map}
use Rattle.algebra.proofs.Keeping.{length-keep, any_none, test_fails}
use Rattle.domain.specs.Size.{max_size}
use Rattle.domain.proofs.SizeLaws.{size_bound}
use Rattle.protocol.specs.Three.{MatrixName, at}
use Rattle.protocol.specs.Circuit.{Entry, Circuit}
use Rattle.protocol.specs.Calls.{words_of_entries}
use Rattle.protocol.specs.Grown.{row_entries, stored, entries_place, first_not_below, row_start, row_length, column_at, place_of, occupied, with_entry, without_entry}
use Rattle.protocol.specs.Growing.{number, changed, stands_at, entries_with, entries_without}
use Rattle.protocol.proofs.AdmissionLaws.{WellFormed}
use Rattle.protocol.proofs.EntryOrder.{lower, upper, split_at_place, stands_true, taken_splits}
use Rattle.protocol.proofs.RowPlaces.{in_rows_below, rows_below, rows-below-none, rows-below-next, row-part, place_found, place_taken}
use Rattle.protocol.proofs.StoredCircuits.{total-stored, row_starts, column-stored, part-stored, insertion_stored, removal-stored}

-- an entry that stands at row i, column j: its value is never looked at
abbrev pub stand_in : ℕ → ℕ → Entry
stand_in i j = record { row = i; column = j; value = 0 }

module _ {p : ℕ} (k : Circuit) (formed : WellFormed p k) (M : MatrixName) where
  abbrev es : List Entry
  es = at k.matrices M

  abbrev n : ℕ
  n = number M

  abbrev w : List ℕ
  w = stored k

  -- where a row begins, and how many entries it has
  start_stored : (i : ℕ) → i ≤ max_size → row_start w n i ≡ length (rows_below i es)
  start_stored = row_starts k formed.few M (rows-below-none es) (λ i. rows-below-next i es)

  length-stored : (i : ℕ) → i < max_size → row_length w n i ≡ length (row_entries i es)
  length-stored i small = omega (arith, start_stored i (omega arith), start_stored (suc i) small, rows-below-next i es)

  -- no entry stands in row 1,024 or past it
  pub past_vacant : (i j : ℕ) → max_size ≤ i → any (stands_at i j) es ≡ false
  past_vacant i j past =
      any_none (stands_at i j) es
      (all_map (λ d fit. test_fails (stands_at i j d) (λ t.
      omega (arith, fit.row_below, size_bound k.|R| formed.R-size, (stands_true i j d t).0))) es (formed.fit M))

  -- the place of an entry, and whether one stands there
  read : (m : ℕ) → m < length es → (z : Entry) → column_at w n m ≡ (get_or es m z).column
  read m inside z = column-stored k formed.few M m z inside

  place_stored : (e : Entry) → e.row < max_size → place_of w n e.row e.column ≡ length (lower e es)
  unfolding place_of
  place_stored e small =
      ap₂ (λ (from to : ℕ). first_not_below (column_at w n) e.column (to - from) from (to - from)) (start_stored e.row (omega arith))
      (start_stored (suc e.row) small)
      ∙ place_found es (formed.rising M) (column_at w n) read e

  pub occupied-stored : (i j : ℕ) → i < max_size → occupied w n i j ≡ any (stands_at i j) es
  unfolding occupied
  occupied-stored i j small =
      ap₂ (λ (place next : ℕ). ltb place next && eqb (column_at w n place) j) (place_stored (stand_in i j) small) (start_stored (suc i) small)
      ∙ place_taken es (formed.rising M) (column_at w n) read (stand_in i j)

  -- memory with an entry more
  pub with_stored : (e : Entry) → length es < max_size → e.row < max_size → with_entry w n e ≡ stored (changed k M (entries_with e es))
  unfolding with_entry entries_with
  with_stored e room small =
      rw (place_stored e small, total-stored k formed.few M, length-stored e.row small)
      (insertion_stored k formed.few M (lower e es) (upper e es) e (split_at_place e es (formed.rising M)) room small)

  -- the entry at a place where one stands, between those before and after it
  taken-row : (i j : ℕ) → any (stands_at i j) es ≡ true → i < max_size
  taken-row i j taken = elim (dec_lt i max_size) [
    | yes small ↦ small
    | no large ↦ absurd (true≢false (sym taken ∙ past_vacant i j (omega arith)))
  ]

  pub taken-parts :
      (i j : ℕ) → any (stands_at i j) es ≡ true
      → (d : Entry) × ((back : List Entry) × ((stands_at i j d ≡ true) × ((es ≡ lower (stand_in i j) es ++ (d ∷ back))
      × (entries_without i j es ≡ lower (stand_in i j) es ++ back))))
  taken-parts i j taken =
      let e : Entry = stand_in i j in
      let (d, (back, (above, (stands, without)))) = taken_splits e es (formed.rising M) taken in
      (d, (back, (stands, (split_at_place e es (formed.rising M) ∙ ap (λ (l : List Entry). lower e es ++ l) above, without))))

  -- memory without it
  pub without_stored :
      (i j : ℕ) → any (stands_at i j) es ≡ true → without_entry w n i j ≡ stored (changed k M (entries_without i j es))
  unfolding without_entry
  without_stored i j taken =
      let (d, (back, (stands, (cut, without)))) = taken-parts i j taken in
      let small : i < max_size = taken-row i j taken in
      let row : d.row ≡ i = (stands_true i j d stands).0 in
      rw (place_stored (stand_in i j) small, total-stored k formed.few M, length-stored i small, without)
      (rw row at (removal-stored k formed.few M (lower (stand_in i j) es) back d cut (omega arith)))

  -- the words of a row
  pub row_words :
      (i : ℕ) → i < max_size
      → take (3 * row_length w n i) (drop (entries_place n + 3 * row_start w n i) w) ≡ words_of_entries (row_entries i es)
  row_words i small =
      let from : ℕ = length (rows_below i es) in
      let many : ℕ = length (row_entries i es) in
      let back : List Entry = drop many (drop from es) in
      let part : row_entries i es ++ back ≡ drop from es =
      ap (λ (l : List Entry). l ++ back) (sym (row-part i es (formed.rising M))) ∙ take-append-drop many (drop from es) in
      let cut : es ≡ take from es ++ (row_entries i es ++ back) =
      sym (ap (λ (l : List Entry). take from es ++ l) part ∙ take-append-drop from es) in
      let begins : length (take from es) ≡ row_start w n i =
      length-take-le from es (length-keep (in_rows_below i) es) ∙ sym (start_stored i (omega arith)) in
      ap₂ (λ (m s : ℕ). take (3 * m) (drop (entries_place n + 3 * s) w)) (length-stored i small) (sym begins)
      ∙ part-stored k formed.few M (take from es) (row_entries i es) back cut
