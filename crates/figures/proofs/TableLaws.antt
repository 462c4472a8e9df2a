-- Texts with their room put one after the other, the rows and cells of the table, and the figures by their rows. Assumes nothing.
use mathlib.Core.Path.{◌≡◌, refl, sym, ap, ◌∙◌}
use mathlib.Core.Bool.{Bool, true, ◌&&◌}
use mathlib.Core.List.{List, [], ◌∷◌, ◌++◌, map, map-append, append-nil, append_assoc}
use Prim.Native.Nat.{ℕ, zero, suc, ◌+◌, ◌*◌, ◌%◌, ◌≤◌, ◌<◌}
use native.Mathlib.Omega.{arith}
use native.Mathlib.Numerals.{add-one}
use lib.Dec.{leb}
use lib.ListN.{length, take, get_or, length-map, get_or-append, get_or-map}
use lib.Seq.{take-suc, get_or-append-add}
use borrow.Author.Tests.{leb-true}
use Rattle.algebra.specs.Lists.{pick}
use Rattle.field.specs.Prime.{Prime}
use Rattle.domain.specs.BabyBear.{baby_bear}
use Rattle.protocol.proofs.RefusalLaws.{and-true}
use Rattle.text.specs.Ascii.{ascii}
use Rattle.text.specs.Decimal.{decimal}
use Rattle.text.specs.Written.{Written}
use Rattle.text.proofs.DecimalLaws.{decimal-short}
use Rattle.text.proofs.WrittenLaws.{written_then, written-length, written_as}
use Rattle.sheet_lines.specs.declared.numbers.Request.{Request}
use Rattle.sheet_lines.specs.Lines.{Given, lines_of}
use Rattle.sheet_lines.specs.Meanings.{given}
use Rattle.figures.specs.Figures.{Figure, size_figures, length_figures, check_figures, triple_figures, tuple_figures, mask_figures, repeat_figures, conversation_figures, figures}
use Rattle.figures.specs.Placed.{number_rows, triple_rows, tuple_rows, mask_rows, row_count, no_figure, figure_at, conversation_at, tuple_at, repeat_at, Within, name_room, source_room, number_room, cell_room, row_room}
use Rattle.figures.specs.Sheet.{cell_text, cells_text, row_text, rows_text}
use Rattle.figures.proofs.PrimePowers.{squared, cubed, prime_squared, prime_cubed}

-- a short text
pub within-room : {b c t : List ℕ} {at place : ℕ} (room : ℕ) → length t ≤ room → Written b at t place c → Within room b at t place c
within-room room short w = record { written = w; within = omega (arith, w.next) }

-- a text, and then another
pub within_then : {b c d s t : List ℕ} {at place end m n : ℕ} → Within m b at s place c → Within n c place t end d
    → Within (m + n) b at (s ++ t) end d
within_then first second =
    record { written = written_then first.written second.written; within = omega (arith, first.within, second.within) }

-- the same with more room
pub within_less : {b c t : List ℕ} {at place m n : ℕ} → m ≤ n → Within m b at t place c → Within n b at t place c
within_less h w = record { written = w.written; within = omega (arith, w.within) }

-- the same text by another name
pub within_as : {b c s t : List ℕ} {at place room : ℕ} → s ≡ t → Within room b at s place c → Within room b at t place c
within_as e w = record { written = written_as e w.written; within = w.within }

pub within-length : {b c t : List ℕ} {at place room : ℕ} → Within room b at t place c → length c ≡ length b
within-length w = written-length w.written

-- a cell more, and a row more
module _ (f : Figure) where
  pub cells_more : (gs : List Given) (g : Given) → cells_text f (gs ++ (g ∷ [])) ≡ cells_text f gs ++ cell_text f g
  unfolding cells_text
  cells_more [] g = append-nil (cell_text f g)
  cells_more (h ∷ gs) g = ap (λ t. cell_text f h ++ t) (cells_more gs g) ∙ sym (append_assoc (cell_text f h) (cells_text f gs) (cell_text f g))

pub rows_more : (gs : List Given) (fs : List Figure) (f : Figure) → rows_text gs (fs ++ (f ∷ [])) ≡ rows_text gs fs ++ row_text gs f
unfolding rows_text
rows_more gs [] f = append-nil (row_text gs f)
rows_more gs (h ∷ fs) f = ap (λ t. row_text gs h ++ t) (rows_more gs fs f) ∙ sym (append_assoc (row_text gs h) (rows_text gs fs) (row_text gs f))

module _ (q : Prime) where
  pub length-figures : length (figures q) ≡ row_count
  unfolding figures
  length-figures = refl

  -- the figures in their groups
  pub size_row : (i : ℕ) → i < 10 → figure_at q i ≡ get_or size_figures i no_figure
  unfolding figures
  size_row i h = get_or-append size_figures (length_figures ++ (check_figures q ++ (triple_figures q ++ conversation_figures q))) no_figure i h

  pub length-row : (i : ℕ) → i < 12 → figure_at q (10 + i) ≡ get_or length_figures i no_figure
  unfolding figures
  length-row i h =
      get_or-append-add size_figures (length_figures ++ (check_figures q ++ (triple_figures q ++ conversation_figures q))) i no_figure
      ∙ get_or-append length_figures (check_figures q ++ (triple_figures q ++ conversation_figures q)) no_figure i h

  pub check_row : (i : ℕ) → i < 9 → figure_at q (22 + i) ≡ get_or (check_figures q) i no_figure
  unfolding figures
  check_row i h =
      get_or-append-add (size_figures ++ length_figures) (check_figures q ++ (triple_figures q ++ conversation_figures q)) i no_figure
      ∙ get_or-append (check_figures q) (triple_figures q ++ conversation_figures q) no_figure i h

  pub triple-row : (i : ℕ) → i < triple_rows → figure_at q (number_rows + i) ≡ get_or (triple_figures q) i no_figure
  unfolding figures
  triple-row i h =
      get_or-append-add (size_figures ++ (length_figures ++ check_figures q)) (triple_figures q ++ conversation_figures q) i no_figure
      ∙ get_or-append (triple_figures q) (conversation_figures q) no_figure i h

  pub conversation-row : (i : ℕ) → figure_at q (number_rows + triple_rows + i) ≡ conversation_at q i
  unfolding figures
  conversation-row i =
      get_or-append-add (size_figures ++ (length_figures ++ (check_figures q ++ triple_figures q))) (conversation_figures q) i no_figure

  -- those on whole conversations
  pub tuple_row : (i : ℕ) → i < tuple_rows → conversation_at q i ≡ tuple_at q i
  tuple_row i h = get_or-append (tuple_figures q) (mask_figures ++ repeat_figures q) no_figure i h

  pub mask-row : (i : ℕ) → i < mask_rows → conversation_at q (tuple_rows + i) ≡ get_or mask_figures i no_figure
  mask-row i h =
      get_or-append-add (tuple_figures q) (mask_figures ++ repeat_figures q) i no_figure
      ∙ get_or-append mask_figures (repeat_figures q) no_figure i h

  pub repeat_row : (i : ℕ) → conversation_at q (tuple_rows + mask_rows + i) ≡ repeat_at q i
  repeat_row i = get_or-append-add (tuple_figures q ++ mask_figures) (repeat_figures q) i no_figure

-- a number of a list of figures' numbers
pub number_of : (fs : List Figure) (g : Given) (i : ℕ) → get_or (map (λ (f : Figure). f.number g) fs) i 0 ≡ (get_or fs i no_figure).number g
number_of fs g i = get_or-map (λ (f : Figure). f.number g) fs i no_figure

-- lines that are not longer than n
abbrev pub short_lines : ℕ → List (List ℕ) → Bool
short_lines n [] = true
short_lines n (l ∷ ls) = leb (length l) n && short_lines n ls

pub short-line : (n : ℕ) (ls : List (List ℕ)) → short_lines n ls ≡ true → (i : ℕ) → length (get_or ls i []) ≤ n
short-line n [] t i = omega arith
short-line n (l ∷ ls) t zero = leb-true (length l) n (and-true (leb (length l) n) (short_lines n ls) t).0
short-line n (l ∷ ls) t (suc i) = short-line n ls (and-true (leb (length l) n) (short_lines n ls) t).1 i

-- lines with a newline between each two
abbrev pub joined : List (List ℕ) → List ℕ
joined [] = []
joined (l ∷ []) = l
joined (l ∷ k ∷ ls) = l ++ (10 ∷ joined (k ∷ ls))

-- a text that has a line for each figure
module _ (q : Prime) (label : Figure → List ℕ) (blank : label no_figure ≡ []) where
  abbrev pub labels : List ℕ
  labels = joined (map label (figures q))

  module _ (room : ℕ) (short : short_lines room (map label (figures q)) ≡ true)
      (lines : lines_of labels ≡ map label (figures q)) (i : ℕ) where
    label_at : get_or (lines_of labels) i [] ≡ label (figure_at q i)
    label_at =
        ap (λ ls. get_or ls i []) lines ∙ ap (get_or (map label (figures q)) i) (sym blank) ∙ get_or-map label (figures q) i no_figure

    label_short : length (get_or (lines_of labels) i []) ≤ room
    label_short = rw lines (short-line room (map label (figures q)) short i)

    pub label_room : i < row_count → (at n : ℕ) → at + room ≤ n
        → (i < length (lines_of labels)) × (at + length (get_or (lines_of labels) i []) ≤ n)
    label_room below at n fits = (
      omega (arith, ap length lines ∙ length-map (figures q) label ∙ length-figures q),
      omega (arith, label_short),
    )

    pub label_put : {b c : List ℕ} {at place : ℕ} → Written b at (get_or (lines_of labels) i []) place c
        → Within room b at (label (figure_at q i)) place c
    label_put w = rw label_at at (within-room room label_short w)

-- the names and the sources
abbrev pub name_of : Figure → List ℕ
name_of f = ascii f.name

abbrev pub source_of : Figure → List ℕ
source_of f = ascii f.source

module _ (q : Prime) where
  pub names_short : short_lines name_room (map name_of (figures q)) ≡ true
  unfolding figures
  names_short = refl

  pub names_lines : lines_of (labels q name_of refl) ≡ map name_of (figures q)
  unfolding figures lines_of pick
  names_lines = refl

  pub sources_short : short_lines source_room (map source_of (figures q)) ≡ true
  unfolding figures
  sources_short = refl

  pub sources_lines : lines_of (labels q source_of refl) ≡ map source_of (figures q)
  unfolding figures lines_of pick
  sources_lines = refl

-- p³ and p², for the triples of eta and for those of delta
abbrev pub powers : List ℕ
powers = joined (cubed ∷ squared ∷ [])

pub powers-lines : lines_of powers ≡ cubed ∷ squared ∷ []
unfolding lines_of pick
powers-lines = refl

pub power-short : (j : ℕ) → length (get_or (lines_of powers) (j % 2) []) ≤ number_room
power-short j = rw powers-lines (short-line number_room (cubed ∷ squared ∷ []) refl (j % 2))

pub power-row : (j : ℕ) (g : Given) → j < triple_rows → get_or (lines_of powers) (j % 2) [] ≡ decimal ((figure_at baby_bear (number_rows + j)).number g)
power-row j g below = rw powers-lines (go j below) ∙ ap (λ (f : Figure). decimal (f.number g)) (sym (triple-row baby_bear j below))
  where
    go : (j : ℕ) → j < triple_rows → get_or (cubed ∷ squared ∷ []) (j % 2) [] ≡ decimal ((get_or (triple_figures baby_bear) j no_figure).number g)
    go zero below = prime_cubed
    go (suc zero) below = prime_squared
    go (suc (suc zero)) below = prime_cubed
    go (suc (suc (suc zero))) below = prime_squared
    go (suc (suc (suc (suc j)))) below = absurd (omega arith)

-- a word of the machine has at most twenty digits
pub few-digits : (n : ℕ) → n < 18446744073709551616 → length (decimal n) ≤ 20
few-digits n h = decimal-short 19 n (omega arith)

-- a cell more of the circuits in the array
pub cell_turn : (f : Figure) (array : List Request) (k : ℕ) (d : Request) {b c e : List ℕ} {at place next : ℕ} → k < length array
    → Within (cell_room * k) b at (cells_text f (map given (take k array))) place c
    → Within cell_room c place (cell_text f (given (get_or array k d))) next e
    → Within (cell_room * (k + 1)) b at (cells_text f (map given (take (k + 1) array))) next e
cell_turn f array k d below before cell =
    let more : map given (take (k + 1) array) ≡ map given (take k array) ++ (given (get_or array k d) ∷ []) =
    ap (λ n. map given (take n array)) (add-one k) ∙ ap (map given) (take-suc array k d below)
    ∙ map-append given (take k array) (get_or array k d ∷ []) in
    let both = within_then before cell in
    record {
      written = written_as (sym (ap (cells_text f) more ∙ cells_more f (map given (take k array)) (given (get_or array k d)))) both.written;
      within = omega (arith, both.within);
    }

-- a row more
pub row_turn : (q : Prime) (gs : List Given) (i : ℕ) {b c e : List ℕ} {at place next : ℕ} → i < row_count
    → Within (row_room * i) b at (rows_text gs (take i (figures q))) place c
    → Within row_room c place (row_text gs (figure_at q i)) next e
    → Within (row_room * (i + 1)) b at (rows_text gs (take (i + 1) (figures q))) next e
row_turn q gs i below before row =
    let more : take (i + 1) (figures q) ≡ take i (figures q) ++ (figure_at q i ∷ []) =
    ap (λ n. take n (figures q)) (add-one i) ∙ take-suc (figures q) i no_figure (omega (arith, length-figures q)) in
    let both = within_then before row in
    record {
      written = written_as (sym (ap (rows_text gs) more ∙ rows_more gs (take i (figures q)) (figure_at q i))) both.written;
      within = omega (arith, both.within);
    }
