-- What program `sheet` writes for a text with a circuit on each line: a table with a row for each figure and a column for each
-- circuit, or a message. Assumes nothing.
use mathlib.Core.List.{List, [], ◌++◌, map, foldr}
use Rattle.std.proofs.Math.Option.{Option, none, some}
use Rattle.std.specs.Prelude.{ℕ, eqb, leb, length}
use Rattle.algebra.specs.Lists.{pick}
use Rattle.field.specs.Prime.{Prime}
use Rattle.text.specs.Ascii.{ascii}
use Rattle.text.specs.Decimal.{decimal}
use Rattle.sheet_lines.specs.Lines.{Given, Line, lines_of, line_of, wrong, circuits}
use Rattle.figures.specs.Figures.{Figure, figures}

-- the longest text, in bytes, and the most circuits
abbrev pub longest_text : ℕ
longest_text = 2048

abbrev pub most_circuits : ℕ
most_circuits = 16

-- the messages for the text
abbrev pub too_long : List ℕ
too_long = ascii "sheet reads at most 2048 bytes\n"

abbrev pub usage : List ℕ
usage = ascii "sheet reads one circuit a line: |R| |C| |X| and the entry counts of A, B, C\n"

abbrev pub too_many : List ℕ
too_many = ascii "sheet takes at most 16 circuits\n"

-- the message for a wrong line, if there is one, and else the text
abbrev pub unless_wrong : Option (List ℕ) → List ℕ → List ℕ
unless_wrong none text = text
unless_wrong (some message) text = message

-- a row: the figure's name, its number for each circuit, and the theorem, with tabs between
unfoldable pub cell_text : Figure → Given → List ℕ
cell_text f g = ascii "\t" ++ decimal (f.number g)

unfoldable pub cells_text : Figure → List Given → List ℕ
cells_text f gs = foldr (λ g rest. cell_text f g ++ rest) [] gs

unfoldable pub row_text : List Given → Figure → List ℕ
row_text gs f = ascii f.name ++ (cells_text f gs ++ (ascii "\t" ++ (ascii f.source ++ ascii "\n")))

unfoldable pub rows_text : List Given → List Figure → List ℕ
rows_text gs fs = foldr (λ f rest. row_text gs f ++ rest) [] fs

module _ (q : Prime) where
  -- the table, where there are circuits and not too many
  unfoldable pub table_text : List Given → List ℕ
  table_text gs = pick (eqb (length gs) 0) usage (pick (leb (length gs) most_circuits) (rows_text gs (figures q)) too_many)

  -- the text is too long, or a line is wrong, or there is the table of all lines' circuits
  unfoldable pub sheet_text : List ℕ → List ℕ
  sheet_text text =
      let lines : List Line = map line_of (lines_of text) in
      pick (leb (length text) longest_text) (unless_wrong (wrong 1 lines) (table_text (circuits lines))) too_long
