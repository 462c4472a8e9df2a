-- `figures::column::length_numbers` meets its contract. Assumes nothing.
use mathlib.Core.Path.{ap, ◌∙◌}
use mathlib.Core.List.{List, [], ◌∷◌}
use Prim.Native.Nat.{ℕ, ◌+◌}
use Rattle.shared.specs.Meanings.{sizes}
use Rattle.protocol.specs.Messages.{MessageLengths, lengths}
use Rattle.protocol.specs.Record.{section_bytes}
use Rattle.protocol.specs.Refusals.{trailer_bytes}
use Rattle.figures.proofs.column.length_numbers.Goals as goal

-- the numbers by the table of messages and the record's length
abbrev numbers : MessageLengths → ℕ → List ℕ
numbers t bytes =
    t.witness ∷ t.mask ∷ t.row_quotient ∷ 3 ∷ t.line_remainder ∷ t.line_quotient ∷ 3
    ∷ t.matrix_remainders.a ∷ t.matrix_remainders.b ∷ t.matrix_remainders.c ∷ t.joined_quotient ∷ bytes ∷ []

pub returns : goal.returns
returns c =
    rw c.record_bytes.ensures
    (ap (λ t. numbers t (section_bytes (sizes c.sizes_for-s.result) + trailer_bytes)) c.message_lengths-l.ensures
    ∙ ap (λ s. numbers (lengths s) (section_bytes s + trailer_bytes)) c.sizes_for-s.ensures)
