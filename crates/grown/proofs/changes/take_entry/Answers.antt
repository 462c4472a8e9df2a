-- `grown::changes::take_entry` meets its contract. Assumes nothing.
use Rattle.std.proofs.Common.{arith}
use Rattle.grown_words.proofs.PlaceLaws.{total-within}
use Rattle.grown.proofs.changes.take_entry.Goals as goal

pub overflow_mul-place : goal.overflow_mul-place
overflow_mul-place c = omega (arith, total-within c.args.circuit.now c.args.matrix)

pub overflow_add-entries : goal.overflow_add-entries
overflow_add-entries c = omega (arith, total-within c.args.circuit.now c.args.matrix)

pub overflow_mul-total : goal.overflow_mul-total
overflow_mul-total c = omega (arith, total-within c.args.circuit.now c.args.matrix)

pub overflow_add-entries-2 : goal.overflow_add-entries-2
overflow_add-entries-2 c = omega (arith, total-within c.args.circuit.now c.args.matrix)

pub remove_entry-requires : goal.remove_entry-requires
remove_entry-requires c = (omega arith, omega (arith, total-within c.args.circuit.now c.args.matrix))

pub overflow_cast-circuit : goal.overflow_cast-circuit
overflow_cast-circuit c = omega (arith, total-within c.args.circuit.now c.args.matrix)
