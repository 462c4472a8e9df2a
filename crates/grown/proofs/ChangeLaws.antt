-- What is found at a row and column, the rows of an addition one after the other, and the answers of an addition and a removal.
-- Assumes nothing.
use Rattle.std.proofs.Common.{◌≡◌, refl, ap, ap₂, ◌∙◌, Bool, true, false, not, ◌&&◌, List, [], ◌∷◌, ℕ, suc, ◌-◌, ◌<◌, ◌≤◌, arith, eqb, ltb, get_or, ltb-true, lt-ltb, le-ltb}
use Rattle.std.specs.Prelude.{Result, IsErrAnd}
use mathlib.Core.Option.{Option, none, some}
use Rattle.field.specs.Prime.{Prime}
use Rattle.domain.specs.Size.{max_size}
use Rattle.protocol.specs.Circuit.{Entry}
use Rattle.protocol.specs.Refusals.{Refusal, first, refuse, list_refusal, word_refusal, fits}
use Rattle.protocol.specs.Grown.{total_place, total, row_start, row_length, column_at, first_not_below, place_of, occupied, with_entry, without_entry, grown_circuit}
use Rattle.protocol.specs.Grown.{occupied_refusal, vacant_refusal, entry_rows, add_refusal, add_entry_call, remove_entry_call}
use Rattle.protocol.proofs.RefusalLaws.{and-true}
use Rattle.protocol.proofs.Rows.{first_only, first-front}
use Rattle.shared.specs.declared.Refusal as declared-refusal
use Rattle.shared.specs.Meanings.{refusal as refusal_meaning, refusal_in}
use Rattle.shared.specs.Answers.{LentAnswer}
use Rattle.shared.proofs.EarlyReturns.{goes_past, fails_first, passes}
use Rattle.shared.proofs.LentAnswers.{lent_refuses, lent_exits, lent-fills}
use Rattle.grown_words.proofs.PlaceLaws.{start_within, start_rises, total-within, search_within}

module _ (w : List ℕ) (n : ℕ) (e : Entry) where
  -- 5 and 7 as tests, and what they say
  abbrev pub room : Bool
  room = ltb n 3 && ltb (get_or w (total_place n) 0) max_size

  abbrev pub entry_fits : Bool
  entry_fits = ltb e.row max_size && fits (grown_circuit w) e

  pub room_there : room ≡ true → (n < 3) × (get_or w (total_place n) 0 < max_size)
  room_there free =
      let t = and-true (ltb n 3) (ltb (get_or w (total_place n) 0) max_size) free in (ltb-true n 3 t.0, ltb-true _ max_size t.1)

  pub row_there : entry_fits ≡ true → e.row < max_size
  row_there fit = ltb-true e.row max_size (and-true (ltb e.row max_size) (fits (grown_circuit w) e) fit).0

  module _ (q : Prime) where
    -- the rows after 5, and after 6
    abbrev last_row : List (Option Refusal)
    last_row = refuse 7 0 (entry_fits ∷ []) ∷ []

    abbrev later_rows : List (Option Refusal)
    later_rows = word_refusal q (e.value ∷ []) ∷ last_row

    abbrev refusal : ℕ → Option Refusal
    refusal number = some (record { number = number; position = 0 })

    pub no_room : room ≡ false → refusal 5 ≡ first (entry_rows q w n e)
    unfolding list_refusal
    no_room full = fails_first 5 0 later_rows full

    module _ (free : room ≡ true) where
      pub no_word : q.p ≤ e.value → refusal 6 ≡ first (entry_rows q w n e)
      unfolding list_refusal word_refusal
      no_word high = passes 5 0 later_rows free (fails_first 6 0 last_row (le-ltb e.value q.p high))

      module _ (below : e.value < q.p) where
        pub no_entry_lem : entry_fits ≡ false → refusal 7 ≡ first (entry_rows q w n e)
        unfolding list_refusal word_refusal
        no_entry_lem unfit = passes 5 0 later_rows free (passes 6 0 last_row (lt-ltb e.value q.p below) (fails_first 7 0 [] unfit))

        pub entry-passes : entry_fits ≡ true → none ≡ first (entry_rows q w n e)
        unfolding list_refusal word_refusal
        entry-passes fit = passes 5 0 later_rows free (passes 6 0 last_row (lt-ltb e.value q.p below) (passes 7 0 [] fit refl))

-- what is found at row i, column j, from the row's bounds
module _ (w : List ℕ) (n i j : ℕ) where
  pub place_from : {start end place : ℕ} → start ≡ row_start w n i → end ≡ row_start w n (suc i)
      → place ≡ first_not_below (column_at w n) j (end - start) start (end - start) → place ≡ place_of w n i j
  unfolding place_of
  place_from s e found = found ∙ ap₂ (λ (from to : ℕ). first_not_below (column_at w n) j (to - from) from (to - from)) s e

  pub taken_from : {end place : ℕ} → end ≡ row_start w n (suc i) → place ≡ place_of w n i j
      → (ltb place end && eqb (column_at w n place) j) ≡ occupied w n i j
  unfolding occupied
  taken_from e p = ap₂ (λ (to place : ℕ). ltb place to && eqb (column_at w n place) j) e p

  -- a place is within the matrix's entries, and one that is taken is an entry of a row that is not empty
  pub place_within : place_of w n i j ≤ total w n
  unfolding place_of
  place_within =
      let found = search_within (column_at w n) j (row_length w n i) (row_start w n i) (row_length w n i) in
      omega (arith, found.1, start_rises w n i, start_within w n (suc i))

  pub taken-within : occupied w n i j ≡ true → (place_of w n i j < total w n) × (0 < row_length w n i)
  unfolding occupied place_of
  taken-within taken =
      let place : ℕ = place_of w n i j in
      let before : place < row_start w n (suc i) =
      ltb-true place (row_start w n (suc i)) (and-true (ltb place (row_start w n (suc i))) (eqb (column_at w n place) j) taken).0 in
      let after = (search_within (column_at w n) j (row_length w n i) (row_start w n i) (row_length w n i)).0 in
      (omega (arith, before, start_within w n (suc i)), omega (arith, before, after))

-- a row has at most 1,024 entries
pub row-few : (w : List ℕ) (n i : ℕ) → row_length w n i ≤ max_size
row-few w n i = omega (arith, start_within w n (suc i), total-within w n)

-- a matrix that has room has fewer than 1,024 entries
pub total-below : (w : List ℕ) (n : ℕ) → get_or w (total_place n) 0 < max_size → total w n < max_size
unfolding total
total-below w n below = omega (arith, below)

-- the answers of an addition: 5, 6 or 7, then 14, then the circuit with the entry
module _ (q : Prime) (w : List ℕ) (n : ℕ) (e : Entry) where
  abbrev place_row : List (Option Refusal)
  place_row = occupied_refusal w n e.row e.column ∷ []

  pub add_stops : {T : Type 0} (r : Result T declared-refusal.Refusal) (y : declared-refusal.Refusal) → IsErrAnd r (λ x. x ≡ y)
      → some (refusal_meaning y) ≡ first (entry_rows q w n e) → LentAnswer (add_entry_call q w n e) (refusal_in r) w w
  unfolding add_entry_call add_refusal
  add_stops r y exit says =
      lent_exits (with_entry w n e) w r y exit (ap (λ o. first (o ∷ place_row)) says ∙ first-front (entry_rows q w n e) place_row)

  module _ (says : none ≡ first (entry_rows q w n e)) where
    pub add-taken : occupied w n e.row e.column ≡ true
        → LentAnswer (add_entry_call q w n e) (some (record { number = 14; position = 0 })) w w
    unfolding add_entry_call add_refusal occupied_refusal
    add-taken taken =
        lent_refuses (with_entry w n e) w _ (record { number = 14; position = 0 }) refl
        (goes_past (entry_rows q w n e) says place_row (fails_first 14 0 [] (ap not taken)))

    pub add_done : (after : List ℕ) → occupied w n e.row e.column ≡ false → after ≡ with_entry w n e
        → LentAnswer (add_entry_call q w n e) none w after
    unfolding add_entry_call add_refusal occupied_refusal
    add_done after vacant made =
        lent-fills (with_entry w n e) w (goes_past (entry_rows q w n e) says place_row (passes 14 0 [] (ap not vacant) refl)) made

-- the answers of a removal: 14, or the circuit without the entry
module _ (w : List ℕ) (n i j : ℕ) where
  abbrev stands : Bool
  stands = ltb n 3 && ltb i max_size && occupied w n i j

  remove_refused : stands ≡ false → LentAnswer (remove_entry_call w n i j) (some (record { number = 14; position = 0 })) w w
  unfolding remove_entry_call vacant_refusal
  remove_refused none-there =
      lent_refuses (without_entry w n i j) w _ (record { number = 14; position = 0 }) refl
      (fails_first 14 0 [] none-there ∙ first_only (vacant_refusal w n i j))

  pub remove_no_matrix : 3 ≤ n → LentAnswer (remove_entry_call w n i j) (some (record { number = 14; position = 0 })) w w
  remove_no_matrix past = remove_refused (ap (λ (b : Bool). b && ltb i max_size && occupied w n i j) (le-ltb n 3 past))

  module _ (matrix : n < 3) where
    pub remove_no_row : max_size ≤ i → LentAnswer (remove_entry_call w n i j) (some (record { number = 14; position = 0 })) w w
    remove_no_row past =
        remove_refused (ap₂ (λ (a b : Bool). a && b && occupied w n i j) (lt-ltb n 3 matrix) (le-ltb i max_size past))

    module _ (row : i < max_size) where
      stands_by : (b : Bool) → occupied w n i j ≡ b → stands ≡ b
      stands_by b e = ap₂ (λ (c d : Bool). c && d && occupied w n i j) (lt-ltb n 3 matrix) (lt-ltb i max_size row) ∙ e

      pub remove_vacant : occupied w n i j ≡ false
          → LentAnswer (remove_entry_call w n i j) (some (record { number = 14; position = 0 })) w w
      remove_vacant vacant = remove_refused (stands_by false vacant)

      pub remove_done : (after : List ℕ) → occupied w n i j ≡ true → after ≡ without_entry w n i j
          → LentAnswer (remove_entry_call w n i j) none w after
      unfolding remove_entry_call vacant_refusal
      remove_done after taken made =
          lent-fills (without_entry w n i j) w (passes 14 0 [] (stands_by true taken) refl ∙ first_only (vacant_refusal w n i j)) made
