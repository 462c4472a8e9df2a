-- Rows and places in a rising list of entries: where a row begins, and where a search by halves finds a column in it. Assumes nothing.
use mathlib.Core.Path.{◌≡◌, refl, sym, ap, ap₂, ◌∙◌}
use mathlib.Core.Bool.{Bool, true, false, not, ◌&&◌, and_comm}
use mathlib.Core.Logic.{inl, inr}
use mathlib.Core.List.{List, ◌∷◌, ◌++◌}
use Prim.Native.Nat.{ℕ, zero, suc, ◌+◌, ◌-◌, ◌/◌, ◌≤◌, ◌<◌}
use native.Mathlib.Omega.{arith}
use native.Mathlib.Decide.{dec_lt}
use lib.Dec.{eqb, ltb}
use lib.ListN.{length, get_or, take, drop, length-append}
use lib.Seq.{take-append_seam, drop-append_seam, get_or-append_seam}
use borrow.Author.Tests.{ltb-true, ltb-false, eqb-true, lt-ltb, le-ltb, eq-eqb, not-true}
use Rattle.algebra.specs.Lists.{pick, keep, any}
use Rattle.algebra.proofs.Keeping.{keep-none, keep_same, keep-keep, keep-within, length-keep_both, length-keep_mono, length-keep, same_test, any_at}
use Rattle.algebra.proofs.Counting.{all_of}
use Rattle.protocol.specs.Circuit.{Entry}
use Rattle.protocol.specs.Refusals.{rises}
use Rattle.protocol.specs.Grown.{row_entries, first_not_below}
use Rattle.protocol.specs.Growing.{stands_at}
use Rattle.protocol.proofs.RefusalLaws.{and-true}
use Rattle.protocol.proofs.AdmissionLaws.{Before, Rising, rises-true}
use Rattle.protocol.proofs.EntryOrder.{true-rises, fails_not_before, rises_down, stands_true, true_stands, split_at_place, taken_splits, kept_rising, split_by, cut_passes, cut_fails, lower}

-- the entries of the rows before row i
abbrev pub in_rows_below : ℕ → Entry → Bool
in_rows_below i d = ltb d.row i

abbrev pub rows_below : ℕ → List Entry → List Entry
rows_below i es = keep (in_rows_below i) es

rows_down : (i : ℕ) (d e : Entry) → Before d e → in_rows_below i e ≡ true → in_rows_below i d ≡ true
rows_down i d e before t = lt-ltb d.row i (go before (ltb-true e.row i t))
  where
    go : Before d e → e.row < i → d.row < i
    go (inl a) below = omega arith
    go (inr a) below = omega (arith, a.0)

-- row i is what is below the next row and not below row i
row_test_lem : (a i : ℕ) → (ltb a (suc i) && not (ltb a i)) ≡ eqb a i
row_test_lem a i = same_test (ltb a (suc i) && not (ltb a i)) (eqb a i) there back
  where
    there : (ltb a (suc i) && not (ltb a i)) ≡ true → eqb a i ≡ true
    there t =
        let u = and-true (ltb a (suc i)) (not (ltb a i)) t in
        eq-eqb a i (omega (arith, ltb-true a (suc i) u.0, ltb-false a i (not-true (ltb a i) u.1)))

    back : eqb a i ≡ true → (ltb a (suc i) && not (ltb a i)) ≡ true
    back t = let e : a ≡ i = eqb-true a i t in rw (lt-ltb a (suc i) (omega arith), le-ltb a i (omega arith))

module _ (i : ℕ) (es : List Entry) where
  pub rows-below-next : length (rows_below (suc i) es) ≡ length (rows_below i es) + length (row_entries i es)
  rows-below-next =
      sym (length-keep_both (in_rows_below i) (rows_below (suc i) es))
      ∙ ap₂ (λ (l k : List Entry). length l + length k)
      (keep-within (in_rows_below i) (in_rows_below (suc i))
      (λ d t. lt-ltb d.row (suc i) (omega (arith, ltb-true d.row i t))) es)
      (keep-keep (λ d. not (in_rows_below i d)) (in_rows_below (suc i)) es
      ∙ keep_same (λ d. in_rows_below (suc i) d && not (in_rows_below i d)) (λ d. eqb d.row i) (λ d. row_test_lem d.row i) es)

  pub row-part : Rising es → take (length (row_entries i es)) (drop (length (rows_below i es)) es) ≡ row_entries i es
  row-part rising =
      let from : List Entry = keep (λ d. not (in_rows_below i d)) es in
      let after : List Entry = keep (λ d. not (in_rows_below (suc i) d)) from in
      let row : keep (in_rows_below (suc i)) from ≡ row_entries i es =
      keep-keep (in_rows_below (suc i)) (λ d. not (in_rows_below i d)) es
      ∙ keep_same (λ d. not (in_rows_below i d) && in_rows_below (suc i) d) (λ d. eqb d.row i)
      (λ d. and_comm (not (in_rows_below i d)) (in_rows_below (suc i) d) ∙ row_test_lem d.row i) es in
      ap (λ l. take (length (row_entries i es)) (drop (length (rows_below i es)) l)) (split_by (in_rows_below i) (rows_down i) es rising)
      ∙ ap (take (length (row_entries i es))) (drop-append_seam (rows_below i es) from
      ∙ split_by (in_rows_below (suc i)) (rows_down (suc i)) from (kept_rising (λ d. not (in_rows_below i d)) es rising)
      ∙ ap (λ l. l ++ after) row)
      ∙ take-append_seam (row_entries i es) after

pub rows-below-none : (es : List Entry) → length (rows_below 0 es) ≡ 0
rows-below-none es = ap length (keep-none (in_rows_below 0) es (all_of (λ d. le-ltb d.row 0 (omega arith)) es))

-- a search by halves finds the bound up to which the numbers are below j
pub search_finds :
    (numbers : ℕ → ℕ) (j turns start count bound : ℕ) → count ≤ turns → start ≤ bound → bound ≤ start + count
    → ((k : ℕ) → start ≤ k → k < bound → numbers k < j) → ((k : ℕ) → bound ≤ k → k < start + count → ¬ (numbers k < j))
    → first_not_below numbers j turns start count ≡ bound
unfolding first_not_below pick
search_finds numbers j zero start count bound enough first last below above = omega arith
search_finds numbers j (suc turns) start zero bound enough first last below above = omega arith
search_finds numbers j (suc turns) start (suc before) bound enough first last below above =
    let less : suc before / 2 ≤ before = omega arith in
    go (ltb (numbers middle) j) refl
    (λ h. search_finds numbers j turns (middle + 1) (before - suc before / 2) bound (omega arith) h (omega arith)
    (λ k from. below k (omega arith)) (λ k from to. above k from (omega arith)))
    (λ h. search_finds numbers j turns start (suc before / 2) bound (omega arith) first h below (λ k from to. above k from (omega arith)))
  where
    middle : ℕ
    middle = start + suc before / 2

    go : (b : Bool) → ltb (numbers middle) j ≡ b
        → (middle + 1 ≤ bound → first_not_below numbers j turns (middle + 1) (before - suc before / 2) ≡ bound)
        → (bound ≤ middle → first_not_below numbers j turns start (suc before / 2) ≡ bound)
        → pick b (first_not_below numbers j turns (middle + 1) (before - suc before / 2))
        (first_not_below numbers j turns start (suc before / 2)) ≡ bound
    go true u right left = elim (dec_lt middle bound) [
      | yes h ↦ right (omega arith)
      | no h ↦ absurd (above middle (omega arith) (omega arith) (ltb-true (numbers middle) j u))
    ]
    go false u right left = elim (dec_lt middle bound) [
      | yes h ↦ absurd (let low : numbers middle < j = below middle (omega arith) h in omega (arith, ltb-false (numbers middle) j u))
      | no h ↦ left (omega arith)
    ]

-- an entry in the row of e or before it that does not stand before e is in its row, not left of it
from_place : (d e : Entry) → d.row < suc e.row → rises d e ≡ false → (d.row ≡ e.row) × (e.column ≤ d.column)
from_place d e low fails =
    let not-before = fails_not_before d e fails in
    let not-less : ¬ (d.row < e.row) = λ l. not-before (inl l) in
    let same : d.row ≡ e.row = omega arith in
    let not_left : ¬ (d.column < e.column) = λ l. not-before (inr (same, l)) in
    (same, omega arith)

-- the place of e in a list whose columns can be read: the search finds it in its row, and tells whether an entry stands there
module _ (es : List Entry) (rising : Rising es) (numbers : ℕ → ℕ) where
  module _ (read : (k : ℕ) → k < length es → (z : Entry) → numbers k ≡ (get_or es k z).column) (e : Entry) where
    -- the entries of its row that stand before it, and those that do not
    below_place : (k : ℕ) → length (rows_below e.row es) ≤ k → k < length (lower e es) → numbers k < e.column
    below_place k from to =
        let inside : k < length es = omega (arith, length-keep (λ d. rises d e) es) in
        go (get_or es k e) (read k inside e)
        (ltb-false (get_or es k e).row e.row (cut_fails (in_rows_below e.row) (rows_down e.row) es rising k e from inside))
        (rises-true (get_or es k e) e (cut_passes (λ d. rises d e) (rises_down e) es rising k e to))
      where
        go : (d : Entry) → numbers k ≡ d.column → e.row ≤ d.row → Before d e → numbers k < e.column
        go d same row (inl a) = absurd (omega arith)
        go d same row (inr a) = omega (arith, a.1)

    from_place_on : (k : ℕ) → length (lower e es) ≤ k → k < length (rows_below (suc e.row) es)
        → ((get_or es k e).row ≡ e.row) × (e.column ≤ (get_or es k e).column)
    from_place_on k from to =
        let inside : k < length es = omega (arith, length-keep (in_rows_below (suc e.row)) es) in
        from_place (get_or es k e) e
        (ltb-true (get_or es k e).row (suc e.row) (cut_passes (in_rows_below (suc e.row)) (rows_down (suc e.row)) es rising k e to))
        (cut_fails (λ d. rises d e) (rises_down e) es rising k e from inside)

    pub place_found :
        (let n : ℕ = length (rows_below (suc e.row) es) - length (rows_below e.row es) in
        first_not_below numbers e.column n (length (rows_below e.row es)) n ≡ length (lower e es))
    place_found =
        let start : ℕ = length (rows_below e.row es) in
        let next : ℕ = length (rows_below (suc e.row) es) in
        let bound : ℕ = length (lower e es) in
        let first : start ≤ bound =
        length-keep_mono (in_rows_below e.row) (λ d. rises d e) (λ d t. true-rises d e (inl (ltb-true d.row e.row t))) es in
        let last : bound ≤ next =
        length-keep_mono (λ d. rises d e) (in_rows_below (suc e.row))
        (λ d t. rows_down (suc e.row) d e (rises-true d e t) (lt-ltb e.row (suc e.row) (omega arith))) es in
        search_finds numbers e.column (next - start) start (next - start) bound (omega arith) first (omega arith) below_place
        (λ k from to less.
        let inside : k < length es = omega (arith, length-keep (in_rows_below (suc e.row)) es) in
        omega (arith, (from_place_on k from (omega arith)).1, read k inside e))

    pub place_taken :
        (ltb (length (lower e es)) (length (rows_below (suc e.row) es)) && eqb (numbers (length (lower e es))) e.column)
        ≡ any (stands_at e.row e.column) es
    place_taken = same_test (in_row && eqb (numbers bound) e.column) (any (stands_at e.row e.column) es) there back
      where
        bound : ℕ
        bound = length (lower e es)

        next : ℕ
        next = length (rows_below (suc e.row) es)

        in_row : Bool
        in_row = ltb bound next

        there : (in_row && eqb (numbers bound) e.column) ≡ true → any (stands_at e.row e.column) es ≡ true
        there t =
            let u = and-true in_row (eqb (numbers bound) e.column) t in
            let before : bound < next = ltb-true bound next u.0 in
            let inside : bound < length es = omega (arith, length-keep (in_rows_below (suc e.row)) es) in
            any_at (stands_at e.row e.column) es bound e inside
            (true_stands e.row e.column (get_or es bound e) (from_place_on bound (omega arith) before).0
            (sym (read bound inside e) ∙ eqb-true (numbers bound) e.column u.1))

        back : any (stands_at e.row e.column) es ≡ true → (in_row && eqb (numbers bound) e.column) ≡ true
        back t =
            let (d, (rest, (above, (stands, without)))) = taken_splits e es rising t in
            let split : es ≡ lower e es ++ (d ∷ rest) = split_at_place e es rising ∙ ap (λ l. lower e es ++ l) above in
            let here : get_or es bound e ≡ d = ap (λ l. get_or l bound e) split ∙ get_or-append_seam (lower e es) d rest e in
            let inside : bound < length es = omega (arith, ap length split, length-append (lower e es) (d ∷ rest)) in
            let place = stands_true e.row e.column d stands in
            let before : bound < next = elim (dec_lt bound next) [
              | yes h ↦ h
              | no h ↦
                  let past : in_rows_below (suc e.row) (get_or es bound e) ≡ false =
                  cut_fails (in_rows_below (suc e.row)) (rows_down (suc e.row)) es rising bound e (omega arith) inside in
                  absurd (omega (arith, ltb-false (get_or es bound e).row (suc e.row) past, ap (λ (f : Entry). f.row) here, place.0))
            ] in
            ap₂ ◌&&◌ (lt-ltb bound next before)
            (eq-eqb (numbers bound) e.column (read bound inside e ∙ ap (λ (f : Entry). f.column) here ∙ place.1))
