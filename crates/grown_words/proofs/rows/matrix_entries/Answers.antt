-- `grown_words::rows::matrix_entries` meets its contract. Assumes nothing.
use Rattle.std.proofs.Common.{◌≡◌, ap, ap₂, ◌∙◌, ℕ, ◌+◌, ◌-◌, ◌*◌, arith, take, drop}
use Rattle.protocol.specs.Grown.{entry_words_in}
use Rattle.grown_words.proofs.PlaceLaws.{total-within}
use Rattle.grown_words.proofs.rows.matrix_entries.Goals as goal

pub overflow_mul-len : goal.overflow_mul-len
overflow_mul-len c = omega (arith, total-within c.args.circuit.now c.args.matrix)

pub overflow_add-result : goal.overflow_add-result
overflow_add-result c = omega (arith, total-within c.args.circuit.now c.args.matrix)

pub slice_bounds-result-end : goal.slice_bounds-result-end
slice_bounds-result-end c = omega (arith, total-within c.args.circuit.now c.args.matrix)

pub returns : goal.returns
unfolding entry_words_in
returns c =
    let w = c.args.circuit.now in
    let start = c.entries_place-start in
    let count = c.total_of-len in
    let long : start.result + 3 * count.result - start.result ≡ 3 * count.result = omega arith in
    ap (λ (n : ℕ). take n (drop start.result w)) long
    ∙ ap₂ (λ (n k : ℕ). take (3 * n) (drop k w)) count.ensures start.ensures
