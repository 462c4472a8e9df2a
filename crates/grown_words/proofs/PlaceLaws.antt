-- Where things stand in a circuit's words: rows within the matrix's entries, the turns of the search, and the answers about a row's
-- place. Assumes nothing.
use Rattle.std.proofs.Common.{◌≡◌, refl, sym, ap, ap₂, ◌∙◌, Bool, true, false, ◌&&◌, List, [], ◌∷◌, ℕ, zero, suc, ◌+◌, ◌-◌, ◌*◌, ◌/◌, ◌<◌, ◌≤◌, arith, get_or, take, drop}
use lib.Dec.{ltb}
use borrow.Author.Tests.{lt-ltb, le-ltb}
use Rattle.algebra.specs.Lists.{pick}
use Rattle.algebra.proofs.Choice.{pick_true, pick-false}
use Rattle.domain.specs.Size.{max_size}
use Rattle.protocol.specs.Refusals.{Outcome, Done, Refused, judged, refuse}
use Rattle.protocol.specs.Grown.{entries_place, total, row_start, row_length, first_not_below, has_row, find_row_call, row_call}
use Rattle.shared.specs.Answers.{part_at}

module _ (w : List ℕ) (n : ℕ) where
  -- no matrix has over 1,024 entries, and each row begins and ends within them
  pub total-within : total w n ≤ max_size
  unfolding total
  total-within = omega arith

  pub start_within : (i : ℕ) → row_start w n i ≤ total w n
  unfolding row_start
  start_within zero = omega arith
  start_within (suc i) = omega arith

  pub start_rises : (i : ℕ) → row_start w n i ≤ row_start w n (suc i)
  unfolding row_start
  start_rises i = omega (arith, start_within i)

  -- so for a row from `start` up to `end`
  pub span_within : (i : ℕ) {start end : ℕ} → (start ≡ row_start w n i) × (end ≡ row_start w n (suc i)) → (start ≤ end) × (end ≤ max_size)
  span_within i (s, e) = (omega (arith, s, e, start_rises i), omega (arith, e, start_within (suc i), total-within))

module _ (numbers : ℕ → ℕ) (j : ℕ) where
  -- the search that is left, from `start` on among `count`, finds `place`
  pub record Left (place start count : ℕ) : Type 0 where
    pub turns : ℕ
    pub enough : count ≤ turns
    pub finds : first_not_below numbers j turns start count ≡ place

  pub left-all : (start count : ℕ) → Left (first_not_below numbers j count start count) start count
  left-all start count = record { turns = count; enough = omega arith; finds = refl }

  pub left-none : {place start count : ℕ} → Left place start count → count ≡ 0 → start ≡ place
  unfolding first_not_below
  left-none {place} {start} l none = sym (over l.turns) ∙ ap (λ (c : ℕ). first_not_below numbers j l.turns start c) (sym none) ∙ l.finds
    where
      over : (turns : ℕ) → first_not_below numbers j turns start 0 ≡ start
      over zero = refl
      over (suc turns) = refl

  -- a turn goes on after the middle, or before it
  pub left_after : {place start count : ℕ} → Left place start count → 0 < count → numbers (start + count / 2) < j
      → Left place (start + count / 2 + 1) (count - count / 2 - 1)
  unfolding first_not_below
  left_after {place} {start} {count} l = after l.turns count l.enough l.finds
    where
      after : (turns count : ℕ) → count ≤ turns → first_not_below numbers j turns start count ≡ place → 0 < count
          → numbers (start + count / 2) < j → Left place (start + count / 2 + 1) (count - count / 2 - 1)
      after turns zero enough finds some low = absurd (omega arith)
      after zero (suc before) enough finds some low = absurd (omega arith)
      after (suc turns) (suc before) enough finds some low =
          let rest : suc before - suc before / 2 - 1 ≡ before - suc before / 2 = omega arith in
          record {
            turns = turns;
            enough = omega arith;
            finds =
                ap (first_not_below numbers j turns (start + suc before / 2 + 1)) rest
                ∙ sym (pick_true _ _ (lt-ltb (numbers (start + suc before / 2)) j low)) ∙ finds;
          }

  pub left_before : {place start count : ℕ} → Left place start count → 0 < count → j ≤ numbers (start + count / 2)
      → Left place start (count / 2)
  unfolding first_not_below
  left_before {place} {start} {count} l = before_middle l.turns count l.enough l.finds
    where
      before_middle : (turns count : ℕ) → count ≤ turns → first_not_below numbers j turns start count ≡ place → 0 < count
          → j ≤ numbers (start + count / 2) → Left place start (count / 2)
      before_middle turns zero enough finds some high = absurd (omega arith)
      before_middle zero (suc before) enough finds some high = absurd (omega arith)
      before_middle (suc turns) (suc before) enough finds some high =
          record {
            turns = turns;
            enough = omega arith;
            finds = sym (pick-false _ _ (le-ltb (numbers (start + suc before / 2)) j high)) ∙ finds;
          }

  -- it ends among the numbers, or right after them
  pub search_within : (turns start count : ℕ) → (start ≤ first_not_below numbers j turns start count)
      × (first_not_below numbers j turns start count ≤ start + count)
  unfolding first_not_below pick
  search_within zero start count = (omega arith, omega arith)
  search_within (suc turns) start zero = (omega arith, omega arith)
  search_within (suc turns) start (suc before) =
      go (ltb (numbers (start + suc before / 2)) j) (search_within turns (start + suc before / 2 + 1) (before - suc before / 2))
      (search_within turns start (suc before / 2))
    where
      go : (b : Bool) {after lower : ℕ}
          → (start + suc before / 2 + 1 ≤ after) × (after ≤ start + suc before / 2 + 1 + (before - suc before / 2))
          → (start ≤ lower) × (lower ≤ start + suc before / 2)
          → (start ≤ pick b after lower) × (pick b after lower ≤ start + suc before)
      go true a l = (omega arith, omega arith)
      go false a l = (omega arith, omega arith)

-- where a row's entries stand: 7 for a matrix that is not there, a row past the room for rows and one past the domain
module _ (w : List ℕ) (n i : ℕ) where
  row-refused : has_row w n i ≡ false → Refused (record { number = 7; position = 0 }) ≡ find_row_call w n i
  unfolding find_row_call
  row-refused past = ap (λ (b : Bool). judged (refuse 7 0 (b ∷ [])) (entries_place n + 3 * row_start w n i, 3 * row_length w n i)) (sym past)

  pub no_matrix : 3 ≤ n → Refused (record { number = 7; position = 0 }) ≡ find_row_call w n i
  unfolding has_row
  no_matrix past = row-refused (ap (λ (b : Bool). b && ltb i max_size && ltb i (get_or w 0 0)) (le-ltb n 3 past))

  pub no_room_for_row : n < 3 → max_size ≤ i → Refused (record { number = 7; position = 0 }) ≡ find_row_call w n i
  unfolding has_row
  no_room_for_row matrix past = row-refused (ap₂ (λ (a b : Bool). a && b && ltb i (get_or w 0 0)) (lt-ltb n 3 matrix) (le-ltb i max_size past))

  module _ (matrix : n < 3) (room : i < max_size) where
    row_there : (b : Bool) → ltb i (get_or w 0 0) ≡ b → has_row w n i ≡ b
    unfolding has_row
    row_there b e = ap₂ (λ (c d : Bool). c && d && ltb i (get_or w 0 0)) (lt-ltb n 3 matrix) (lt-ltb i max_size room) ∙ e

    pub no_row : get_or w 0 0 ≤ i → Refused (record { number = 7; position = 0 }) ≡ find_row_call w n i
    no_row past = row-refused (row_there false (le-ltb i (get_or w 0 0) past))

    pub row-found : i < get_or w 0 0 → Done (entries_place n + 3 * row_start w n i, 3 * row_length w n i) ≡ find_row_call w n i
    unfolding find_row_call
    row-found below =
        ap (λ (b : Bool). judged (refuse 7 0 (b ∷ [])) (entries_place n + 3 * row_start w n i, 3 * row_length w n i))
        (sym (row_there true (lt-ltb i (get_or w 0 0) below)))

  -- the part is the one at the place that is found
  pub row-at_place : part_at w (find_row_call w n i) ≡ row_call w n i
  unfolding row_call
  row-at_place = go (find_row_call w n i)
    where
      go : (o : Outcome (ℕ × ℕ)) → part_at w o ≡ elim o as (λ o. List ℕ) [ Done place ↦ take place.1 (drop place.0 w) | Refused r ↦ [] ]
      go (Done place) = refl
      go (Refused r) = refl
