-- The lines of a text are its parts between the newlines, but for an empty part at the end. Assumes nothing.
use Rattle.std.proofs.Common.{◌≡◌, refl, ap, Bool, true, false, List, [], ◌∷◌, ◌++◌, ℕ, eqb}
use mathlib.Core.Logic.{◌⊎◌, inl, inr}
use Rattle.std.specs.List.{slice_split, onto_first}
use Rattle.std.proofs.lemmas.List.Splits.{slice_split-cons_yes, slice_split-cons_no}
use Rattle.algebra.proofs.Choice.{pick_true, pick-false}
use Rattle.sheet_lines.specs.Lines.{on_first, lines_of}

-- the parts between the newlines
abbrev pub newline : ℕ → Bool
newline b = eqb b 10

abbrev pub parts : List ℕ → List (List ℕ)
parts text = slice_split newline text

-- the parts are the lines, or the lines with an empty part after them
abbrev pub Covers : List (List ℕ) → List (List ℕ) → Type 0
Covers ps ls = (ps ≡ ls) ⊎ (ps ≡ ls ++ ([] ∷ []))

-- after a newline, and after another byte
line_more : {ps ls : List (List ℕ)} → Covers ps ls → Covers ([] ∷ ps) ([] ∷ ls)
line_more (inl e) = inl (ap (λ l. [] ∷ l) e)
line_more (inr e) = inr (ap (λ l. [] ∷ l) e)

first_more : (b : ℕ) (ps ls : List (List ℕ)) → Covers ps ls → Covers (onto_first b ps) (on_first b ls)
first_more b ps [] (inl e) = inl (ap (onto_first b) e)
first_more b ps (l ∷ ls) (inl e) = inl (ap (onto_first b) e)
first_more b ps [] (inr e) = inl (ap (onto_first b) e)
first_more b ps (l ∷ ls) (inr e) = inr (ap (onto_first b) e)

pub parts_cover : (text : List ℕ) → Covers (parts text) (lines_of text)
unfolding lines_of
parts_cover [] = inr refl
parts_cover (b ∷ text) = go (newline b) refl (parts_cover text)
  where
    go : (t : Bool) → newline b ≡ t → Covers (parts text) (lines_of text) → Covers (parts (b ∷ text)) (lines_of (b ∷ text))
    go true e h =
        rw (slice_split-cons_yes newline b text e, pick_true ([] ∷ lines_of text) (on_first b (lines_of text)) e) (line_more h)
    go false e h =
        rw (slice_split-cons_no newline b text e, pick-false ([] ∷ lines_of text) (on_first b (lines_of text)) e)
        (first_more b (parts text) (lines_of text) h)
