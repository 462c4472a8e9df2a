-- `figures::column::record_bytes` meets its contract: no sum is above that of all bytes, which are few. Assumes nothing.
use mathlib.Core.Path.{◌≡◌, ap}
use Prim.Native.Nat.{◌+◌, ◌*◌, ◌<◌, ◌^◌}
use native.Mathlib.Omega.{arith}
use Rattle.protocol.specs.Circuit.{Sizes}
use Rattle.shared.specs.Meanings.{sizes, message_lengths}
use Rattle.protocol.specs.Messages.{MessageLengths}
use Rattle.protocol.specs.Record.{section_bytes}
use Rattle.figures.proofs.RecordLaws.{row_words, line_words, matrix_words, words-add_up, few_bytes}
use Rattle.figures.proofs.column.record_bytes.Goals as goal
use Rattle.figures.proofs.column.record_bytes.Goals.{After-message_lengths-l}

-- the bytes of the sections, by the table and by the sizes
module _ (b : After-message_lengths-l) where
  abbrev s : Sizes
  s = sizes b.args.s

  abbrev table : MessageLengths
  table = message_lengths b.message_lengths-l.result

  added : 4 * (row_words table + line_words table + matrix_words table) ≡ section_bytes s
  added = words-add_up s table b.message_lengths-l.ensures

  few : section_bytes s < 2 ^ 40
  few = few_bytes s (omega (arith, b.well_formed))

pub overflow_add-rows : goal.overflow_add-rows
overflow_add-rows c = let b = (goal.at.overflow_add-rows c).After-message_lengths-l in omega (arith, added b, few b)

pub overflow_add-rows-2 : goal.overflow_add-rows-2
overflow_add-rows-2 c = let b = (goal.at.overflow_add-rows-2 c).After-message_lengths-l in omega (arith, added b, few b)

pub overflow_add-rows-3 : goal.overflow_add-rows-3
overflow_add-rows-3 c = let b = (goal.at.overflow_add-rows-3 c).After-message_lengths-l in omega (arith, added b, few b)

pub overflow_add-lines : goal.overflow_add-lines
overflow_add-lines c = let b = (goal.at.overflow_add-lines c).After-message_lengths-l in omega (arith, added b, few b)

pub overflow_add-lines-2 : goal.overflow_add-lines-2
overflow_add-lines-2 c = let b = (goal.at.overflow_add-lines-2 c).After-message_lengths-l in omega (arith, added b, few b)

pub overflow_add-matrices : goal.overflow_add-matrices
overflow_add-matrices c = let b = (goal.at.overflow_add-matrices c).After-message_lengths-l in omega (arith, added b, few b)

pub overflow_add-matrices-2 : goal.overflow_add-matrices-2
overflow_add-matrices-2 c = let b = (goal.at.overflow_add-matrices-2 c).After-message_lengths-l in omega (arith, added b, few b)

pub overflow_add-matrices-3 : goal.overflow_add-matrices-3
overflow_add-matrices-3 c = let b = (goal.at.overflow_add-matrices-3 c).After-message_lengths-l in omega (arith, added b, few b)

pub overflow_add-result : goal.overflow_add-result
overflow_add-result c = let b = (goal.at.overflow_add-result c).After-message_lengths-l in omega (arith, added b, few b)

pub overflow_add-result-2 : goal.overflow_add-result-2
overflow_add-result-2 c = let b = (goal.at.overflow_add-result-2 c).After-message_lengths-l in omega (arith, added b, few b)

pub overflow_mul-result : goal.overflow_mul-result
overflow_mul-result c = let b = (goal.at.overflow_mul-result c).After-message_lengths-l in omega (arith, added b, few b)

pub overflow_add-result-3 : goal.overflow_add-result-3
overflow_add-result-3 c = let b = (goal.at.overflow_add-result-3 c).After-message_lengths-l in omega (arith, added b, few b)

pub returns : goal.returns
returns c = ap (λ n. n + 72) (added (goal.at.returns c).After-message_lengths-l)
