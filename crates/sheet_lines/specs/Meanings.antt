-- What the code's values mean: what was found on a line, the first wrong line, and the circuits kept in an array. Assumes nothing.
use Rattle.std.specs.Prelude.{◌≡◌, List, map, ℕ, ◌<◌, ◌≤◌, min, length, take, Option, Some, None, Result, Ok, Err}
use Rattle.std.proofs.Math.Option as math
use Rattle.std.proofs.Math.Option.{none, some}
use Rattle.shared.specs.Meanings.{refusal, three}
use Rattle.sheet_lines.specs.declared.numbers.Request.{Request}
use Rattle.sheet_lines.specs.declared.numbers.Wrong as declared-wrong
use Rattle.sheet_lines.specs.declared.numbers.Wrong.TheVariants.{NotSix, Refused}
use Rattle.sheet_lines.specs.declared.circuits.WrongLine.{WrongLine}
use Rattle.sheet_lines.specs.declared.circuits.Circuits.{Circuits}
use Rattle.sheet_lines.specs.Lines.{Given, Line, Blank, Circuit, Wrong, not_six, refused_text, wrong_text}

-- the circuit of a request
abbrev pub given : Request → Given
given r = record { |R| = r.r; |C| = r.c; |X| = r.x; entries = three r.entries }

-- the message for what is wrong with a line
abbrev pub message_of : declared-wrong.Wrong → List ℕ
message_of NotSix = not_six
message_of (Refused r) = refused_text (refusal r)

-- what was found on a line
abbrev pub found_line : Result (Option Request) declared-wrong.Wrong → Line
found_line (Ok None) = Blank
found_line (Ok (Some r)) = Circuit (given r)
found_line (Err w) = Wrong (message_of w)

-- the message that is due for the first wrong line, if there is one
abbrev pub message_due : Option WrongLine → math.Option (List ℕ)
message_due None = none
message_due (Some w) = some (wrong_text w.line (message_of w.wrong))

-- the circuits kept in the front of an array of 16
pub record Kept (gs : List Given) (array : List Request) (count : ℕ) : Type 0 where
  pub long : length array ≡ 16
  pub few : count ≤ 16
  pub front : map given (take count array) ≡ gs

-- the circuits are kept, unless there are more than 16
abbrev pub KeptAll : List Given → Option Circuits → Type 0
KeptAll gs None = 16 < length gs
KeptAll gs (Some c) = Kept gs c.array c.count

-- the circuits and their count, which is 17 for more than 16; up to 16 stand in the array's front
pub record Counted (gs : List Given) (array : List Request) (count : ℕ) : Type 0 where
  pub long : length array ≡ 16
  pub counts : count ≡ min (length gs) 17
  pub front : count ≤ 16 → map given (take count array) ≡ gs
