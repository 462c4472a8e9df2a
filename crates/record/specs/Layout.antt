-- Parts of the definitions of a record, as the code goes by them: which sizes are allowed, where the sections begin and end,
-- and the refusals of a record that come before its words. Assumes nothing.
use Rattle.std.specs.Prelude.{◌≡◌, true, ℕ, ◌+◌, ◌-◌, ◌*◌, eqb, length}
use mathlib.Core.List.{List, [], ◌∷◌, ◌++◌, foldr}
use Rattle.std.proofs.Math.Option.{Option}
use Rattle.algebra.specs.Counting.{All}
use Rattle.algebra.specs.Lists.{tabulate}
use Rattle.protocol.specs.Circuit.{Sizes}
use Rattle.protocol.specs.Refusals.{Refusal, first, refuse, pairs, trailer_bytes, six_size_tests}
use Rattle.protocol.specs.Record.{section_lengths, starts_from, section_bytes, trailer_word, end_row, trailer_row}

-- every size is allowed, and |X| is not above |C|
abbrev pub Allowed : Sizes → Type 0
Allowed s = All (λ t. t ≡ true) (six_size_tests s)

-- the bytes of lists of these lengths in words
abbrev pub byte_count : List ℕ → ℕ
byte_count l = foldr (λ n total. 4 * n + total) 0 l

-- the byte starts of sections of these lengths, and last that of the trailer
unfoldable pub bounds : List ℕ → List ℕ
bounds l = starts_from 0 l ++ (byte_count l ∷ [])

-- 3: the starts of a record, and its total length, against those that the sizes give
module _ (bytes : List ℕ) (s : Sizes) where
  abbrev pub starts_row : Option Refusal
  starts_row = refuse 3 0 (pairs eqb (tabulate 11 (trailer_word bytes)) (starts_from 0 (section_lengths s)))

  abbrev pub total_row : Option Refusal
  total_row = refuse 3 17 (eqb (length bytes - trailer_bytes) (section_bytes s) ∷ [])

  unfoldable pub starts_refusal : Option Refusal
  starts_refusal = first (starts_row ∷ total_row ∷ [])

-- 2 and 3: all of a record but its words
unfoldable pub layout_refusal : List ℕ → Option Refusal
layout_refusal bytes = first (end_row bytes ∷ trailer_row bytes ∷ [])
