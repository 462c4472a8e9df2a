-- Six numbers read from a line one byte at a time: the state, its step, and what reading answers. Assumes nothing.
use Rattle.std.specs.Prelude.{ℕ, ◌+◌, min, eqb, length, get_or, List, [], ◌∷◌, Option, Some, None, Result, Ok, Err}
use Rattle.std.proofs.Math.Option as math
use Rattle.std.proofs.Math.Option.{none, some}
use Rattle.algebra.specs.Lists.{pick}
use Rattle.sheet_lines.specs.declared.numbers.Request.{Request}
use Rattle.sheet_lines.specs.declared.numbers.Scan.{Scan}
use Rattle.sheet_lines.specs.declared.numbers.Wrong.{Wrong}
use Rattle.sheet_lines.specs.declared.numbers.Wrong.TheVariants.{NotSix}
use Rattle.sheet_lines.specs.Numbers.{is_digit, is_blank, extend}

-- the number whose digits are being read, if there is one
abbrev pub number_read : Option ℕ → math.Option ℕ
number_read None = none
number_read (Some n) = some n

-- the last six numbers, after one more
abbrev pub pushed : Request → ℕ → Request
pushed six n =
    record {
      r = six.c;
      c = six.x;
      x = six.entries.a;
      entries = record { a = six.entries.b; b = six.entries.c; c = n };
    }

-- the count of numbers, 7 for more than six
abbrev pub counted : ℕ → ℕ
counted n = min (n + 1) 7

-- the number that was being read, if there was one, ends
abbrev pub ended_number : Option ℕ → Scan → Scan
ended_number None s = s
ended_number (Some n) s = record { number = None; count = counted s.count; six = pushed s.six n }

unfoldable pub number_ended : Scan → Scan
number_ended s = ended_number s.number s

-- one more byte; nothing where it is neither a digit nor a blank
unfoldable pub stepped : Scan → ℕ → Option Scan
stepped s b =
    pick (is_digit b)
    (Some (record { number = Some (extend (number_read s.number) b); count = s.count; six = s.six }))
    (pick (is_blank b) (Some (number_ended s)) None)

abbrev pub no_numbers : Request
no_numbers = record { r = 0; c = 0; x = 0; entries = record { a = 0; b = 0; c = 0 } }

abbrev pub scan_start : Scan
scan_start = record { number = None; count = 0; six = no_numbers }

-- the state after more bytes, and after the end of the text
abbrev pub scanned_on : Option Scan → List ℕ → Option Scan
scanned_on None l = None
scanned_on (Some s) [] = Some (number_ended s)
scanned_on (Some s) (b ∷ l) = scanned_on (stepped s b) l

unfoldable pub scanned : List ℕ → Option Scan
scanned text = scanned_on (Some scan_start) text

-- the circuit of six numbers
abbrev pub request_by : List ℕ → Request
request_by ns =
    record {
      r = get_or ns 0 0;
      c = get_or ns 1 0;
      x = get_or ns 2 0;
      entries = record { a = get_or ns 3 0; b = get_or ns 4 0; c = get_or ns 5 0 };
    }

-- none, six, or another count of numbers, or none where something else stands in the line
abbrev pub reading_of : math.Option (List ℕ) → Result (Option Request) Wrong
reading_of none = Err NotSix
reading_of (some ns) = pick (eqb (length ns) 0) (Ok None) (pick (eqb (length ns) 6) (Ok (Some (request_by ns))) (Err NotSix))
