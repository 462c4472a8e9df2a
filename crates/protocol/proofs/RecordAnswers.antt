-- Demand 1 for the calls of the proof record. Assumes nothing.
use mathlib.Core.Path.{◌≡◌, sym, subst}
use mathlib.Core.Bool.{Bool, ◌&&◌}
use mathlib.Core.List.{List, [], ◌∷◌, ◌++◌, map, foldr}
use mathlib.Core.Option.{Option}
use Prim.Native.Nat.{ℕ, ◌+◌, ◌-◌, ◌/◌, ◌%◌, ◌<◌}
use lib.Dec.{eqb, leb, ltb}
use lib.ListN.{length, take}
use native.Mathlib.Omega.{arith}
use Rattle.algebra.specs.Lists.{tabulate}
use Rattle.field.specs.Prime.{Prime}
use Rattle.protocol.specs.Circuit.{Sizes}
use Rattle.protocol.specs.Refusals.{Refusal, judged, first, refuse, pairs, trailer_bytes, six_size_tests, size_refusal, list_refusal, word_refusal, end_refusal, trailer_refusal}
use Rattle.protocol.specs.Record.{section_lengths, section_bytes, starts_from, words_in, trailer_word, sizes_read, word_row, record_refusal, read_record}
use Rattle.protocol.specs.Calls.{write_call, place_call}
use Rattle.protocol.specs.Table.{Row, row, Answers}
use Rattle.protocol.specs.Rows.{six_size_conditions, equal_conditions, end_row, trailer_rows, words_row}
use Rattle.protocol.specs.Demand1.{record_rows, write_rows}
use Rattle.protocol.proofs.TableLaws.{Told, ToldAll, told, told_append, first_together, answers-first}
use Rattle.protocol.proofs.TableLaws.{tell_append, tells_equal, tells_less, tells_most, tells_both, tells_as}
use Rattle.protocol.proofs.RowTests.{tell_six_sizes, sizes-told, lists-told, tell_same, words-told}

module _ (q : Prime) where
  pub writes : (s : Sizes) (sections : List (List ℕ)) (lent : ℕ) → Answers (write_rows q s sections lent) (write_call q s sections lent)
  unfolding write_call
  writes s sections lent =
      let last : ℕ = section_bytes s + trailer_bytes in
      let tests : List Bool = pairs eqb (map length sections) (section_lengths s) in
      let conditions : List (Type 0) = equal_conditions (map length sections) (section_lengths s) in
      answers-first
      (size_refusal (six_size_tests s) ∷ list_refusal (tests ++ (eqb lent last ∷ [])) ∷ word_refusal q (foldr ◌++◌ [] sections) ∷ [])
      (write_rows q s sections lent) _ (
        sizes-told (six_size_tests s) (six_size_conditions s) (tell_six_sizes s),
        (
          lists-told (tests ++ (eqb lent last ∷ [])) (conditions ++ ((lent ≡ last) ∷ []))
              (tell_append tests (eqb lent last ∷ []) conditions ((lent ≡ last) ∷ []) (tell_same (map length sections) (section_lengths s))
              (tells_equal lent last, tt)),
          (words-told q (foldr ◌++◌ [] sections), tt),
        ),
      )

  module _ (bytes : List ℕ) where
    abbrev s : Sizes
    s = sizes_read bytes

    abbrev n : ℕ
    n = length bytes

    end_told : Told (end_refusal n (trailer_word bytes 17)) (end_row bytes)
    unfolding end_refusal
    end_told =
        let long : Bool = leb trailer_bytes n in
        let whole : Bool = eqb (n % 4) 0 in
        let last : Bool = eqb (trailer_word bytes 17) (n - trailer_bytes) in
        told 2 0 ((long && whole && last) ∷ []) (end_row bytes).conditions (
          tells_as (long && whole && last)
              (tells_both (long && whole) last (tells_both long whole (tells_most trailer_bytes n) (tells_equal (n % 4) 0))
              (tells_equal (trailer_word bytes 17) (n - trailer_bytes)))
              (λ ((most, words), same). (most, (n / 4, omega arith), same)) (λ (most, (k, words), same). ((most, omega arith), same)),
          tt,
        )

    -- the three rows of 3
    abbrev trailer : List (Option Refusal)
    trailer =
        refuse 3 11 (six_size_tests s) ∷ refuse 3 0 (pairs eqb (tabulate 11 (trailer_word bytes)) (starts_from 0 (section_lengths s)))
        ∷ refuse 3 17 (eqb (n - trailer_bytes) (section_bytes s) ∷ []) ∷ []

    trailer-told : ToldAll trailer (trailer_rows bytes)
    trailer-told = (
      told 3 11 (six_size_tests s) (six_size_conditions s) (tell_six_sizes s),
      (
        told 3 0 (pairs eqb (tabulate 11 (trailer_word bytes)) (starts_from 0 (section_lengths s)))
            (equal_conditions (tabulate 11 (trailer_word bytes)) (starts_from 0 (section_lengths s)))
            (tell_same (tabulate 11 (trailer_word bytes)) (starts_from 0 (section_lengths s))),
        (
          told 3 17 (eqb (n - trailer_bytes) (section_bytes s) ∷ []) ((n - trailer_bytes ≡ section_bytes s) ∷ [])
              (tells_equal (n - trailer_bytes) (section_bytes s), tt),
          tt,
        ),
      ),
    )

    record_answers :
        {T : Type 0} (l : List (Option Refusal)) (between : List Row) (result : T) → ToldAll l between
        → Answers (record_rows q bytes between)
        (judged (first (end_refusal n (trailer_word bytes 17) ∷ (first trailer ∷ (l ++ (word_row bytes q ∷ []))))) result)
    record_answers l between result all =
        let rest : List (Option Refusal) = l ++ (word_row bytes q ∷ []) in
        let last : Row = words_row q (words_in (take (n - trailer_bytes) bytes)) in
        subst (λ o. Answers (record_rows q bytes between) (judged o result)) (sym (first_together (end_refusal n (trailer_word bytes 17)) trailer rest))
        (answers-first (end_refusal n (trailer_word bytes 17) ∷ (trailer ++ rest)) (record_rows q bytes between) result (
          end_told,
          told_append trailer rest (trailer_rows bytes) (between ++ (last ∷ [])) trailer-told
              (told_append l (word_row bytes q ∷ []) between (last ∷ []) all (words-told q (words_in (take (n - trailer_bytes) bytes)), tt)),
        ))

    pub reads : Answers (record_rows q bytes []) (read_record bytes q)
    unfolding read_record record_refusal trailer_refusal
    reads = record_answers [] [] _ tt

    pub finds_section : (k : ℕ) → Answers (record_rows q bytes (row 5 k ((k < 11) ∷ []) ∷ [])) (place_call q bytes k)
    unfolding place_call trailer_refusal
    finds_section k =
        record_answers (refuse 5 k (ltb k 11 ∷ []) ∷ []) (row 5 k ((k < 11) ∷ []) ∷ []) _
        (told 5 k (ltb k 11 ∷ []) ((k < 11) ∷ []) (tells_less k 11, tt), tt)
