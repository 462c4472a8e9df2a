-- The lines of a text with a circuit on each: what a line holds, the message for the first that is wrong, and the circuits.
-- Assumes nothing.
use Rattle.std.specs.Prelude.{List, [], ◌∷◌, ◌++◌, map, ℕ, suc, eqb, leb, length, get_or}
use Rattle.std.proofs.Math.Option.{Option, none, some}
use Rattle.algebra.specs.Lists.{pick}
use Rattle.domain.specs.Size.{max_size}
use Rattle.protocol.specs.Three.{Three, listed}
use Rattle.protocol.specs.Refusals.{Refusal, first, size_tests, size_refusal, list_refusal}
use Rattle.text.specs.Ascii.{ascii}
use Rattle.text.specs.Decimal.{decimal}
use Rattle.sheet_lines.specs.Numbers.{numbers_in}

-- what the planner gives of a circuit: |R|, |C|, |X| and the entry counts of A, B, C
pub record Given : Type 0 where
  pub |R| : ℕ
  pub |C| : ℕ
  pub |X| : ℕ
  pub entries : Three ℕ

-- the messages for a line, and what stands before them for line n
abbrev pub not_six : List ℕ
not_six = ascii "six numbers are |R| |C| |X| and the entry counts of A, B, C\n"

abbrev pub refused_text : Refusal → List ℕ
refused_text r = ascii "refused " ++ (decimal r.number ++ (ascii " " ++ (decimal r.position ++ ascii "\n")))

unfoldable pub wrong_text : ℕ → List ℕ → List ℕ
wrong_text n message = ascii "line " ++ (decimal n ++ (ascii ": " ++ message))

-- a byte more in front of the first line
abbrev pub on_first : ℕ → List (List ℕ) → List (List ℕ)
on_first b [] = (b ∷ []) ∷ []
on_first b (line ∷ lines) = (b ∷ line) ∷ lines

-- the lines of a text, without the newlines (10) at their ends
unfoldable pub lines_of : List ℕ → List (List ℕ)
lines_of [] = []
lines_of (b ∷ text) = pick (eqb b 10) ([] ∷ lines_of text) (on_first b (lines_of text))

-- what a line holds: nothing, a circuit, or something that a message is due for
pub data Line : Type 0 where
  Blank : Line
  Circuit : Given → Line
  Wrong : List ℕ → Line

-- 4 for the sizes, then 5 for the counts
unfoldable pub sheet_refusal : Given → Option Refusal
sheet_refusal g =
    first
    (size_refusal (size_tests g.|R| g.|C| g.|X| [])
    ∷ list_refusal (map (λ n. leb n max_size) (listed g.entries))
    ∷ [])

abbrev pub circuit_line : Given → Option Refusal → Line
circuit_line g none = Circuit g
circuit_line g (some r) = Wrong (refused_text r)

-- the circuit of six numbers
abbrev pub given_by : List ℕ → Given
given_by ns =
    record {
      |R| = get_or ns 0 0;
      |C| = get_or ns 1 0;
      |X| = get_or ns 2 0;
      entries = record { a = get_or ns 3 0; b = get_or ns 4 0; c = get_or ns 5 0 };
    }

-- a line by its numbers, where it has nothing but numbers
abbrev pub line_by : Option (List ℕ) → Line
line_by none = Wrong not_six
line_by (some ns) =
    pick (eqb (length ns) 0) Blank (pick (eqb (length ns) 6) (circuit_line (given_by ns) (sheet_refusal (given_by ns))) (Wrong not_six))

unfoldable pub line_of : List ℕ → Line
line_of line = line_by (numbers_in line)

-- the message for the first wrong line, if there is one; the first of the lines is line n of the text
abbrev pub wrong : ℕ → List Line → Option (List ℕ)
wrong n [] = none
wrong n (Blank ∷ ls) = wrong (suc n) ls
wrong n (Circuit g ∷ ls) = wrong (suc n) ls
wrong n (Wrong message ∷ ls) = some (wrong_text n message)

-- the circuits of the lines, in order
abbrev pub circuits : List Line → List Given
circuits [] = []
circuits (Blank ∷ ls) = circuits ls
circuits (Circuit g ∷ ls) = g ∷ circuits ls
circuits (Wrong message ∷ ls) = circuits ls
