-- `grown::beginnings::store` meets its contract: the sizes and the words of the matrices are put one after the other, up to the end.
-- Assumes nothing.
use Rattle.std.proofs.Common.{ap, ◌∙◌, arith, length, rules}
use Rattle.std.proofs.lemmas.List.{places}
use Rattle.grown.proofs.BeginningLaws.{circuit_filled, circuit-stored}
use Rattle.grown.proofs.beginnings.store.Goals as goal

pub returns : goal.returns
returns c =
    let k = c.args.given.now in
    circuit_filled c.args.circuit.now c.copy_from_slice.new.self c.store_matrix.new.out c.store_matrix-2.new.out
    c.store_matrix-3.new.out 4097
    (omega arith) (ap length c.copy_from_slice.ensures.after) (search (rules, places)) (search (rules, places))
    ∙ circuit-stored k.r k.c k.x k.matrices.a.now k.matrices.b.now k.matrices.c.now c.copy_from_slice.ensures.after c.store_matrix.ensures
    c.store_matrix-2.ensures c.store_matrix-3.ensures
