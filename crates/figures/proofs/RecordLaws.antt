-- What the sections of a record add up to, and that it is little. Assumes nothing.
use mathlib.Core.Path.{◌≡◌}
use mathlib.Core.List.{◌∷◌}
use Prim.Native.Nat.{ℕ, ◌+◌, ◌*◌, ◌<◌, ◌^◌}
use native.Mathlib.Omega.{arith}
use Rattle.algebra.specs.Counting.{All}
use Rattle.protocol.specs.Three.{listed}
use Rattle.protocol.specs.Circuit.{Sizes, largest}
use Rattle.protocol.specs.Messages.{MessageLengths, lengths}
use Rattle.protocol.specs.Record.{section_lengths, section_bytes}

-- the words of the sections by the table of messages
abbrev pub row_words : MessageLengths → ℕ
row_words table = table.witness + table.mask + table.row_quotient + 3

abbrev pub line_words : MessageLengths → ℕ
line_words table = table.line_remainder + table.line_quotient + 3

abbrev pub matrix_words : MessageLengths → ℕ
matrix_words table =
    table.matrix_remainders.a + table.matrix_remainders.b + table.matrix_remainders.c + table.joined_quotient

pub words-add_up :
    (s : Sizes) (table : MessageLengths) → table ≡ lengths s → 4 * (row_words table + line_words table + matrix_words table) ≡ section_bytes s
unfolding section_lengths section_bytes
words-add_up s table same = rw (← same) (omega arith)

-- sizes that are words give few bytes
module _ (s : Sizes) (words : All (λ n. n < 2 ^ 32) (s.|R| ∷ s.|C| ∷ s.|X| ∷ listed s.|K|)) where
  few_words : All (λ n. n < 2 ^ 33) (section_lengths s)
  unfolding section_lengths lengths largest
  few_words = omega arith

  pub few_bytes : section_bytes s < 2 ^ 40
  unfolding section_lengths section_bytes
  few_bytes = omega (arith, few_words)
