-- `prover::line::add_weights` meets its contract. Assumes nothing.
use Rattle.std.proofs.Common.{◌∙◌, List, map, ℕ, length, get_or}
use Rattle.field.specs.Element.{Elem, of, ◌⊕◌, ◌⊗◌}
use Rattle.protocol.specs.Checks.{weighted}
use Rattle.protocol.specs.Calls.{entries_of}
use Rattle.prover.specs.EntrySums.{column_total}
use Rattle.prover.proofs.LineLaws.{then, gather}
use Rattle.prover.proofs.line.add_weights.Goals as goal
use Rattle.prover.proofs.line.add_weights.Goals.{Start}

pub returns : goal.returns
unfolding weighted
returns c q e =
    let a = (goal.at.returns c).Start.args in
    let k = a.circuit.now in
    let first = c.add_column_sums in
    let second = c.add_column_sums-2 in
    let third = c.add_column_sums-3 in
    let n : ℕ = length a.out.now in
    let rows : List (Elem q) = map of a.rows.now in
    let old : ℕ → Elem q = λ j. of (get_or a.out.now j 0) in
    let in_a : ℕ → Elem q = λ j. of a.eta.a ⊗ column_total rows (entries_of k.matrices.a.now) j in
    let in_b : ℕ → Elem q = λ j. of a.eta.b ⊗ column_total rows (entries_of k.matrices.b.now) j in
    let in_c : ℕ → Elem q = λ j. of a.eta.c ⊗ column_total rows (entries_of k.matrices.c.now) j in
    then second.new.out third.new.out n (λ j. old j ⊕ in_a j ⊕ in_b j) in_c
    (then first.new.out second.new.out n (λ j. old j ⊕ in_a j) in_b (first.ensures q e) (second.ensures q e))
    (third.ensures q e)
    ∙ gather n old in_a in_b in_c
