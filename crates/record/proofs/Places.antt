-- Where a section stands: the finder's rows one after the other, and the section as the part of the bytes at the place that they
-- let through. Assumes nothing.
use Rattle.std.proofs.Common.{◌≡◌, refl, sym, ap, ◌∙◌, Bool, true, false, List, [], ◌∷◌, ℕ, suc, ◌*◌, ◌≤◌, ◌<◌, arith, ltb, length, get_or, drop, ltb-true, ltb-false, lt-ltb, le-ltb}
use Rattle.std.proofs.Math.Option.{none, some, Option}
use lib.ListN.{get_or-eq_default}
use Rattle.field.specs.Prime.{Prime}
use Rattle.protocol.specs.Refusals.{Refusal, Done, Refused, judged, first, refuse}
use Rattle.protocol.specs.Record.{section_lengths, starts_from, parts_of, sizes_read, end_row, trailer_row, word_row, record_refusal, read_record}
use Rattle.protocol.specs.Calls.{section_call, place_call}
use Rattle.protocol.proofs.Rows.{first_only, first_nested, first_append, first_stop, first_pass}
use Rattle.shared.specs.Answers.{part_at}
use Rattle.record.specs.Layout.{layout_refusal}
use Rattle.record.proofs.Bounds.{part-at}
use Rattle.record.proofs.Starts.{eleven}
use Rattle.record.proofs.Rows.{record_rows_lem}

length-parts : (bytes l : List ℕ) → length (parts_of bytes l) ≡ length l
unfolding parts_of
length-parts bytes [] = refl
length-parts bytes (n ∷ l) = ap suc (length-parts (drop (4 * n) bytes) l)

module _ (q : Prime) (bytes : List ℕ) (k : ℕ) where
  abbrev lengths : List ℕ
  lengths = section_lengths (sizes_read bytes)

  -- the start and the length of section k
  abbrev place : ℕ × ℕ
  place = (get_or (starts_from 0 lengths) k 0, 4 * get_or lengths k 0)

  abbrev number_row : Option Refusal
  number_row = refuse 5 k (ltb k 11 ∷ [])

  place_rows : place_call q bytes k ≡ judged (first (layout_refusal bytes ∷ number_row ∷ word_row bytes q ∷ [])) place
  unfolding place_call layout_refusal
  place_rows =
      ap (λ o. judged o place)
      (first_append (end_row bytes ∷ trailer_row bytes ∷ []) (number_row ∷ word_row bytes q ∷ [])
      ∙ first_nested (layout_refusal bytes) (number_row ∷ word_row bytes q ∷ []))

  pub place_by_layout : {r : Refusal} → layout_refusal bytes ≡ some r → place_call q bytes k ≡ Refused r
  place_by_layout e = place_rows ∙ ap (λ o. judged o place) (first_stop (number_row ∷ word_row bytes q ∷ []) e)

  module _ (free : layout_refusal bytes ≡ none) where
    place_after : {t : Bool} → ltb k 11 ≡ t → place_call q bytes k ≡ judged (first (refuse 5 k (t ∷ []) ∷ word_row bytes q ∷ [])) place
    place_after e =
        place_rows
        ∙ ap (λ o. judged (first (o ∷ number_row ∷ word_row bytes q ∷ [])) place) free
        ∙ ap (λ t. judged (first (refuse 5 k (t ∷ []) ∷ word_row bytes q ∷ [])) place) e

    pub place_by_number : 11 ≤ k → place_call q bytes k ≡ Refused (record { number = 5; position = k })
    place_by_number past = place_after (le-ltb k 11 past)

    module _ (below : k < 11) where
      place_words : place_call q bytes k ≡ judged (word_row bytes q) place
      place_words = place_after (lt-ltb k 11 below) ∙ ap (λ o. judged o place) (first_only (word_row bytes q))

      pub place_by_words : {r : Refusal} → word_row bytes q ≡ some r → place_call q bytes k ≡ Refused r
      place_by_words e = place_words ∙ ap (λ o. judged o place) e

      pub place_found : word_row bytes q ≡ none → place_call q bytes k ≡ Done (get_or (starts_from 0 lengths) k 0, 4 * get_or lengths k 0)
      place_found e = place_words ∙ ap (λ o. judged o place) e

  section-refused : {r : Refusal} → record_refusal bytes q ≡ some r → section_call q bytes k ≡ []
  unfolding section_call read_record
  section-refused e = rw (e, section_call)

  section-whole : record_refusal bytes q ≡ none → section_call q bytes k ≡ get_or (parts_of bytes lengths) k []
  unfolding section_call read_record
  section-whole e = rw (e, section_call)

  section_past : 11 ≤ k → (o : Option Refusal) → record_refusal bytes q ≡ o → section_call q bytes k ≡ []
  section_past past (some r) e = section-refused e
  section_past past none e =
      section-whole e
      ∙ get_or-eq_default (parts_of bytes lengths) [] {n = k} (omega (arith, length-parts bytes lengths, eleven (sizes_read bytes)))

  -- the section is the part of the bytes at the place that is found, and empty where the place is refused
  pub section-at_place : section_call q bytes k ≡ part_at bytes (place_call q bytes k)
  section-at_place = by_layout (layout_refusal bytes) refl
    where
      by_words : layout_refusal bytes ≡ none → k < 11 → (o : Option Refusal) → word_row bytes q ≡ o
          → section_call q bytes k ≡ part_at bytes (judged o place)
      by_words free below (some r) e = section-refused (record_rows_lem bytes q ∙ first_pass (word_row bytes q) free ∙ e)
      by_words free below none e =
          section-whole (record_rows_lem bytes q ∙ first_pass (word_row bytes q) free ∙ e)
          ∙ part-at bytes lengths k (omega (arith, eleven (sizes_read bytes)))

      by_number : layout_refusal bytes ≡ none → (t : Bool) → ltb k 11 ≡ t → section_call q bytes k ≡ part_at bytes (place_call q bytes k)
      by_number free false e =
          let past : 11 ≤ k = ltb-false k 11 e in
          section_past past (record_refusal bytes q) refl ∙ sym (ap (part_at bytes) (place_by_number free past))
      by_number free true e =
          let below : k < 11 = ltb-true k 11 e in
          by_words free below (word_row bytes q) refl ∙ sym (ap (part_at bytes) (place_words free below))

      by_layout : (o : Option Refusal) → layout_refusal bytes ≡ o → section_call q bytes k ≡ part_at bytes (place_call q bytes k)
      by_layout (some r) e =
          section-refused (record_rows_lem bytes q ∙ first_stop (word_row bytes q ∷ []) e) ∙ sym (ap (part_at bytes) (place_by_layout e))
      by_layout none e = by_number e (ltb k 11) refl
