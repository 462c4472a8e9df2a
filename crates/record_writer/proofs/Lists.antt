-- Lists behind references, taken one after the other: what is left from a place on, its first list and those after it. Assumes nothing.
use Rattle.std.proofs.Common.{◌≡◌, sym, ap, ◌∙◌, List, [], ◌∷◌, ◌++◌, map, ℕ, ◌+◌, ◌*◌, ◌<◌, add-one, append_assoc, arith, ltb, length, get_or, drop, drop-cons}
use Rattle.std.proofs.lemmas.List.{length-map}
use Rattle.std.specs.Borrow.{Bor}
use Rattle.protocol.specs.Refusals.{first}
use Rattle.protocol.specs.Record.{bytes_of}
use Rattle.protocol.proofs.Rows.{map_at, refuse-map_append}
use Rattle.protocol.proofs.Words.{bytes_of_append}
use Rattle.record.specs.Layout.{byte_count}
use Rattle.record_writer.specs.Sections.{lists, joined, refuse_words}

-- what is read past the end of a list of references
abbrev pub blank : Bor (List ℕ)
blank = record { ref_ptr = (0, 0); now = [] }

module _ (refs : List (Bor (List ℕ))) where
  pub length-lengths : length (map length (lists refs)) ≡ length refs
  length-lengths = omega (arith, length-map (lists refs) length, length-map refs (λ r. r.now))

  module _ (i : ℕ) (within : i < length refs) where
    pub length_at : get_or (map length (lists refs)) i 0 ≡ length (get_or refs i blank).now
    length_at =
        map_at length (lists refs) i [] 0 (omega (arith, length-map refs (λ r. r.now)))
        ∙ ap length (map_at (λ r. r.now) refs i blank [] within)

    pub from_here : lists (drop i refs) ≡ (get_or refs i blank).now ∷ lists (drop (i + 1) refs)
    from_here = rw add-one (ap lists (drop-cons refs i blank within))

-- what is left is the list w, and then the rest
module _ {left rest : List (List ℕ)} {w : List ℕ} (next : left ≡ w ∷ rest) where
  pub count-left : byte_count (map length left) ≡ 4 * length w + byte_count (map length rest)
  count-left = ap (λ l. byte_count (map length l)) next

  pub bytes-left : (before : List ℕ) {after : List ℕ} → after ≡ before ++ bytes_of w
      → after ++ bytes_of (joined rest) ≡ before ++ bytes_of (joined left)
  bytes-left before e =
      ap (λ b. b ++ bytes_of (joined rest)) e ∙ append_assoc before (bytes_of w) (bytes_of (joined rest))
      ∙ ap (λ b. before ++ b) (sym (ap (λ l. bytes_of (joined l)) next ∙ bytes_of_append w (joined rest)))

  pub words-left : (p start : ℕ) → refuse_words p start (joined left)
      ≡ first (refuse_words p start w ∷ refuse_words p (start + length w) (joined rest) ∷ [])
  words-left p start = ap (λ l. refuse_words p start (joined l)) next ∙ refuse-map_append 6 start (λ v. ltb v p) w (joined rest)
