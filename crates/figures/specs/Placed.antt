-- The rows of the sheet, and texts put into a buffer with room to spare. Assumes nothing.
use Rattle.std.specs.Prelude.{List, ℕ, ◌+◌, ◌*◌, ◌≤◌, get_or}
use Rattle.field.specs.Prime.{Prime}
use Rattle.text.specs.Written.{Written}
use Rattle.figures.specs.Figures.{Figure, figure, tuple_figures, repeat_figures, conversation_figures, figures}
use Rattle.figures.specs.Sheet.{most_circuits}

-- how many rows there are of sizes, lengths and single checks, and how many count triples
abbrev pub number_rows : ℕ
number_rows = 31

abbrev pub triple_rows : ℕ
triple_rows = 4

-- how many rows are on whole conversations: on tuples, masks and repeats
abbrev pub tuple_rows : ℕ
tuple_rows = 8

abbrev pub mask_rows : ℕ
mask_rows = 2

abbrev pub repeat_rows : ℕ
repeat_rows = 2

abbrev pub conversation_rows : ℕ
conversation_rows = tuple_rows + mask_rows + repeat_rows

-- how many rows the sheet has
abbrev pub row_count : ℕ
row_count = number_rows + triple_rows + conversation_rows

-- past the last row
abbrev pub no_figure : Figure
no_figure = figure "" (λ g. 0) ""

-- row i of the sheet
abbrev pub figure_at : Prime → ℕ → Figure
figure_at q i = get_or (figures q) i no_figure

-- row i of those on whole conversations
abbrev pub conversation_at : Prime → ℕ → Figure
conversation_at q i = get_or (conversation_figures q) i no_figure

-- row i of those that count tuples of challenges, and of those on repeated conversations
abbrev pub tuple_at : Prime → ℕ → Figure
tuple_at q i = get_or (tuple_figures q) i no_figure

abbrev pub repeat_at : Prime → ℕ → Figure
repeat_at q i = get_or (repeat_figures q) i no_figure

-- a text stands in the buffer from `at` on, `place` is the place after it, and the text is not longer than the room
pub record Within (room : ℕ) (before : List ℕ) (at : ℕ) (text : List ℕ) (place : ℕ) (after : List ℕ) : Type 0 where
  pub written : Written before at text place after
  pub within : place ≤ at + room

-- room for a figure's name, its theorem's name, and a number
abbrev pub name_room : ℕ
name_room = 56

abbrev pub source_room : ℕ
source_room = 14

abbrev pub number_room : ℕ
number_room = 100

-- room for a number with its tab, a row, and the sheet
abbrev pub cell_room : ℕ
cell_room = 1 + number_room

abbrev pub row_room : ℕ
row_room = name_room + cell_room * most_circuits + 1 + source_room + 1

abbrev pub sheet_room : ℕ
sheet_room = row_room * row_count
