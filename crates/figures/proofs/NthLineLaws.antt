-- Line n of a text is its part n between the newlines. Assumes nothing.
use Rattle.std.proofs.Common.{◌≡◌, ap, ◌∙◌, arith, List, [], ◌∷◌, ◌++◌, ℕ, ◌<◌, length, get_or, length-append}
use Rattle.std.specs.Prelude.{Some, slice_get}
use Rattle.std.proofs.lemmas.List.{get_or_append_left}
use Rattle.std.proofs.lemmas.Option.{slice_get-get_or}
use mathlib.Core.Logic.{inl, inr}
use Rattle.sheet_lines.specs.Lines.{lines_of}
use Rattle.sheet_lines.proofs.LineLaws.{parts, Covers, parts_cover}

pub part_at : (text : List ℕ) (n : ℕ) → n < length (lines_of text) → slice_get (parts text) n ≡ Some (get_or (lines_of text) n [])
part_at text n below = go (parts text) (lines_of text) below (parts_cover text)
  where
    go : (ps ls : List (List ℕ)) → n < length ls → Covers ps ls → slice_get ps n ≡ Some (get_or ls n [])
    go ps ls below (inl e) = rw e (slice_get-get_or ls n [] below)
    go ps ls below (inr e) =
        rw e
        (slice_get-get_or (ls ++ ([] ∷ [])) n [] (omega (arith, length-append ls ([] ∷ [])))
        ∙ ap Some (get_or_append_left ls ([] ∷ []) [] n below))
