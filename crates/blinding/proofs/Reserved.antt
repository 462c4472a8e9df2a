-- The reserved columns by the sizes, entries in a reserved row and reserved columns, found in lists of words, and whether row and columns
-- can be reserved. Assumes nothing.
use mathlib.Core.Path.{◌≡◌, sym, ap, ap₂, ◌∙◌}
use mathlib.Core.Bool.{Bool, true, false, not, ◌&&◌, ◌||◌, or_assoc}
use mathlib.Core.Logic.{◌≢◌}
use mathlib.Core.List.{List, ◌++◌}
use Prim.Native.Nat.{ℕ, ◌-◌, ◌*◌, ◌/◌, ◌<◌, ◌≤◌}
use native.Mathlib.Omega.{arith}
use lib.Dec.{eqb, leb}
use borrow.Author.Tests.{le-leb, lt-leb}
use lib.ListN.{length}
use Rattle.algebra.specs.Lists.{any}
use Rattle.algebra.proofs.Counting.{at_all}
use Rattle.algebra.proofs.Keeping.{any_none, any_at, any_append}
use Rattle.domain.specs.Size.{is_size}
use Rattle.protocol.specs.Three.{Three, listed}
use Rattle.protocol.specs.Circuit.{Entry, Circuit}
use Rattle.protocol.specs.Calls.{entries_of}
use Rattle.protocol.specs.Blinded.{reserved_row, reserved_columns, stands_reserved, reservable}
use Rattle.protocol.proofs.EntryLists.{length-entries_of}
use Rattle.circuit.specs.Given.{entry_words, entry_lists}
use Rattle.protocol.proofs.PrivateColumns.{private_count, every_second, last_three, columns_rise}
use Rattle.circuit.proofs.Entries.{entry_at}
use Rattle.blinding.specs.Given.{Sized, Reserving}

-- an entry stands in a row or in one of three columns
abbrev pub stands : ℕ → Three ℕ → Entry → Bool
stands last columns e = eqb e.row last || any (eqb e.column) (listed columns)

-- in those of a circuit
pub stands_by : (k : Circuit) {last : ℕ} {columns : Three ℕ} → reserved_row k ≡ last → reserved_columns k ≡ columns → (es : List Entry)
    → any (stands_reserved k) es ≡ any (stands last columns) es
stands_by k row columns es = ap₂ (λ (r : ℕ) (t : Three ℕ). any (stands r t) es) row columns

-- one entry of a list that passes a test, by its words, and none that does
module _ (t : Entry → Bool) (l : List ℕ) where
  pub some-passes : (i : ℕ) → i < length l / 3 → t (entry_words l i) ≡ true → any t (entries_of l) ≡ true
  some-passes i within e =
      let below : i < length (entries_of l) = omega (arith, length-entries_of l) in
      any_at t (entries_of l) i (entry_words l i) below (ap t (entry_at l i (entry_words l i) below) ∙ e)

  pub none_passes : ((i : ℕ) → i < length l / 3 → t (entry_words l i) ≡ false) → any t (entries_of l) ≡ false
  none_passes h =
      let zeros : Entry = record { row = 0; column = 0; value = 0 } in
      any_none t (entries_of l) (at_all (λ e. t e ≡ false) (entries_of l) zeros (λ i below.
      ap t (entry_at l i zeros below) ∙ h i (omega (arith, length-entries_of l))))

-- the reserved columns of a circuit, by its sizes
module _ (k : Circuit) {c x : ℕ} (columns : k.|C| ≡ c) (publics : k.|X| ≡ x) (G : Reserving c x) where
  abbrev own : Reserving k.|C| k.|X|
  own =
      record {
        C-size = ap is_size columns ∙ G.C-size;
        X-size = ap is_size publics ∙ G.X-size;
        X-within = omega (arith, G.X-within);
        enough = omega (arith, G.enough);
      }

  pub alternating : c ≡ 2 * x → record { a = c - 5; b = c - 3; c = c - 1 } ≡ reserved_columns k
  alternating double =
      sym (every_second k own.C-size own.X-size own.X-within own.enough (omega arith)
      ∙ ap (λ n. record { a = n - 5; b = n - 3; c = n - 1 }) columns)

  pub consecutive : c ≢ 2 * x → record { a = c - 3; b = c - 2; c = c - 1 } ≡ reserved_columns k
  consecutive other =
      sym (last_three k own.C-size own.X-size own.X-within own.enough (λ double. other (omega arith))
      ∙ ap (λ n. record { a = n - 3; b = n - 2; c = n - 1 }) columns)

  -- they stand within the assignment
  pub columns-below : {t : Three ℕ} {n : ℕ} → t ≡ reserved_columns k → n ≡ c → (t.a < n) × ((t.b < n) × (t.c < n))
  columns-below {t} {n} same all =
      let (low, (middle, high)) = columns_rise k own.C-size own.X-size own.X-within own.enough in
      let in_a : t.a ≡ (reserved_columns k).a = ap (λ (t : Three ℕ). t.a) same in
      let in_b : t.b ≡ (reserved_columns k).b = ap (λ (t : Three ℕ). t.b) same in
      let in_c : t.c ≡ (reserved_columns k).c = ap (λ (t : Three ℕ). t.c) same in
      (omega (arith, low, middle, high), (omega (arith, middle, high), omega (arith, high)))

-- row and columns can be reserved where there are columns enough and no list has such an entry
module _ (k : Circuit) {r c x : ℕ} (columns : k.|C| ≡ c) (publics : k.|X| ≡ x) (sized : Sized r c x) (ea eb ec : List ℕ)
    (matrices : k.matrices ≡ entry_lists ea eb ec) where
  abbrev found : List ℕ → Bool
  found l = any (stands_reserved k) (entries_of l)

  by_lists : reservable k ≡ (leb 3 (c - x) && not (found ea || (found eb || found ec)))
  by_lists =
      ap₂ (λ (n : ℕ) (b : Bool). leb 3 n && not b)
      (private_count k (ap is_size columns ∙ sized.C-size) (ap is_size publics ∙ sized.X-size) (omega (arith, sized.X-within))
      ∙ ap₂ ◌-◌ columns publics)
      (ap (λ (m : Three (List Entry)). any (stands_reserved k) (m.a ++ (m.b ++ m.c))) matrices
      ∙ any_append (stands_reserved k) (entries_of ea) (entries_of eb ++ entries_of ec)
      ∙ ap (λ (b : Bool). found ea || b) (any_append (stands_reserved k) (entries_of eb) (entries_of ec)))

  pub too_few : c - x < 3 → false ≡ reservable k
  too_few few = sym (by_lists ∙ ap (λ (b : Bool). b && not (found ea || (found eb || found ec))) (lt-leb 3 (c - x) few))

  -- enough columns: it is not so where an entry of the three lists is found
  pub by_entries : {f : Bool} → 3 ≤ c - x → f ≡ ((found ea || found eb) || found ec) → not f ≡ reservable k
  by_entries enough e =
      ap not (e ∙ or_assoc (found ea) (found eb) (found ec))
      ∙ sym (by_lists ∙ ap (λ (b : Bool). b && not (found ea || (found eb || found ec))) (le-leb 3 (c - x) enough))
