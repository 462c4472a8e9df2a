-- The rows of the table for a record as the code goes through them: what is known where the rows before the words refuse
-- nothing, and what the reader answers by the rows' refusal. Assumes nothing.
use Rattle.std.proofs.Common.{◌≡◌, sym, ◌∙◌, true, ◌&&◌, List, [], ◌∷◌, ℕ, ◌-◌, ◌*◌, ◌/◌, ◌%◌, ◌≤◌, arith, eqb, leb, length, eqb-true, leb-true}
use Rattle.std.proofs.Math.Option.{Option, none, some}
use Rattle.field.specs.Prime.{Prime}
use Rattle.protocol.specs.Circuit.{Sizes}
use Rattle.protocol.specs.Refusals.{Refusal, Done, Refused, first, refuse, six_size_tests, trailer_bytes, end_refusal}
use Rattle.protocol.specs.Record.{section_bytes, trailer_word, sizes_read, end_row, trailer_row, word_row, record_refusal, read_record}
use Rattle.protocol.proofs.RefusalLaws.{first-none, refuse-none, and-true}
use Rattle.protocol.proofs.Rows.{first_before_last}
use Rattle.record.specs.Answers.{sizes_found}
use Rattle.record.specs.Layout.{Allowed, starts_row, total_row, starts_refusal, layout_refusal}
use Rattle.record.proofs.Starts.{trailer-rows}

module _ (total last : ℕ) (free : end_refusal total last ≡ none) where
  ends : ((leb trailer_bytes total && eqb (total % 4) 0) ≡ true) × (eqb last (total - trailer_bytes) ≡ true)
  unfolding end_refusal
  ends =
      and-true (leb trailer_bytes total && eqb (total % 4) 0) (eqb last (total - trailer_bytes))
      (refuse-none 2 0 ((leb trailer_bytes total && eqb (total % 4) 0 && eqb last (total - trailer_bytes)) ∷ []) free).0

  pub end_long : trailer_bytes ≤ total
  end_long = leb-true trailer_bytes total (and-true (leb trailer_bytes total) (eqb (total % 4) 0) ends.0).0

  end_whole : total % 4 ≡ 0
  end_whole = eqb-true (total % 4) 0 (and-true (leb trailer_bytes total) (eqb (total % 4) 0) ends.0).1

-- a record whose end and trailer are not refused
pub record Laid (bytes : List ℕ) : Type 0 where
  pub long : trailer_bytes ≤ length bytes
  pub whole : length bytes % 4 ≡ 0
  pub allowed : Allowed (sizes_read bytes)
  pub total : length bytes - trailer_bytes ≡ section_bytes (sizes_read bytes)

pub laid : (bytes : List ℕ) → layout_refusal bytes ≡ none → Laid bytes
unfolding layout_refusal starts_refusal
laid bytes free =
    let s : Sizes = sizes_read bytes in
    let sizesRow : Option Refusal = refuse 3 11 (six_size_tests s) in
    let rows = first-none (end_row bytes ∷ trailer_row bytes ∷ []) free in
    let trails = first-none (sizesRow ∷ starts_refusal bytes s ∷ []) (sym (trailer-rows bytes) ∙ rows.1.0) in
    let lasts = first-none (starts_row bytes s ∷ total_row bytes s ∷ []) trails.1.0 in
    record {
      long = end_long (length bytes) (trailer_word bytes 17) rows.0;
      whole = end_whole (length bytes) (trailer_word bytes 17) rows.0;
      allowed = refuse-none 3 11 (six_size_tests s) trails.0;
      total = eqb-true (length bytes - trailer_bytes) (section_bytes s)
          (refuse-none 3 17 (eqb (length bytes - trailer_bytes) (section_bytes s) ∷ []) lasts.1.0).0;
    }

module _ (bytes : List ℕ) where
  -- the words before the trailer fill the bytes before it
  pub whole-sections : layout_refusal bytes ≡ none → 4 * ((length bytes - trailer_bytes) / 4) ≡ length bytes - trailer_bytes
  whole-sections free = let l : Laid bytes = laid bytes free in omega (arith, l.long, l.whole)

  module _ (q : Prime) where
    -- the words after the layout
    pub record_rows_lem : record_refusal bytes q ≡ first (layout_refusal bytes ∷ word_row bytes q ∷ [])
    unfolding record_refusal layout_refusal
    record_rows_lem = first_before_last (end_row bytes ∷ trailer_row bytes ∷ []) (word_row bytes q)

    pub read-refused : {r : Refusal} → record_refusal bytes q ≡ some r → sizes_found (read_record bytes q) ≡ Refused r
    unfolding read_record
    read-refused e = rw e

    pub read_whole : record_refusal bytes q ≡ none → sizes_found (read_record bytes q) ≡ Done (sizes_read bytes)
    unfolding read_record
    read_whole e = rw e
