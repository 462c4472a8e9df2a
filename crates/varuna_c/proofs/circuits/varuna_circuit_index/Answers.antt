-- `varuna_c::circuits::varuna_circuit_index` meets its contract. Assumes nothing.
use Rattle.std.specs.Prelude.{length}
use Rattle.domain.specs.BabyBear.{baby_bear}
use Rattle.protocol.specs.Three.{map_three}
use Rattle.protocol.specs.Index.{map_index}
use Rattle.protocol.specs.Grown.{grown_index_call}
use Rattle.varuna.specs.Inputs.{twelve}
use Rattle.c_numbers.proofs.AnswerLaws.{filled_told}
use Rattle.varuna_c.proofs.circuits.varuna_circuit_index.Goals as goal

pub returns : goal.returns
returns c =
    let a = c.args in
    let before =
    twelve a.row_a.now a.col_a.now a.rowcol_a.now a.rowcolval_a.now a.row_b.now a.col_b.now a.rowcol_b.now
    a.rowcolval_b.now a.row_c.now a.col_c.now a.rowcol_c.now a.rowcolval_c.now in
    let n = c.index_circuit-answer.new in
    let after =
    twelve n.row_a n.col_a n.rowcol_a n.rowcolval_a n.row_b n.col_b n.rowcol_b n.rowcolval_b
    n.row_c n.col_c n.rowcol_c n.rowcolval_c in
    filled_told before (grown_index_call baby_bear a.circuit.now (map_three (map_index length) before)) {after = after}
    c.give_filled.ensures
    c.index_circuit-answer.ensures
