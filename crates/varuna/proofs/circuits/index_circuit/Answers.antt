-- `varuna::circuits::index_circuit` meets its contract: it is the index of the lists in memory. Assumes nothing.
use mathlib.Core.Path.{◌≡◌, ap, ◌∙◌}
use mathlib.Core.List.{List}
use Prim.Native.Nat.{ℕ}
use lib.ListN.{length, get_or}
use Rattle.domain.specs.BabyBear.{baby_bear}
use Rattle.protocol.specs.Three.{Three, map_three}
use Rattle.protocol.specs.Index.{Index, map_index}
use Rattle.protocol.specs.Calls.{CircuitWords, index_call}
use Rattle.protocol.specs.Grown.{entry_words_in, grown_lists, grown_index_call}
use Rattle.circuit.specs.Given.{given}
use Rattle.varuna.specs.Answers.{fills}
use Rattle.varuna.specs.Inputs.{twelve}
use Rattle.varuna.proofs.circuits.index_circuit.Goals as goal

-- the circuit that is handed on is the one in memory
handed_on : (w ea eb ec : List ℕ) → ea ≡ entry_words_in w 0 → eb ≡ entry_words_in w 1 → ec ≡ entry_words_in w 2
    → given (get_or w 0 0) (get_or w 1 0) (get_or w 2 0) ea eb ec ≡ grown_lists w
unfolding grown_lists
handed_on w ea eb ec a b c = λ t. given (get_or w 0 0) (get_or w 1 0) (get_or w 2 0) (a t) (b t) (c t)

pub returns : goal.returns
unfolding grown_index_call
returns c =
    let a = c.args in
    let w = a.circuit.now in
    let before : Three (Index (List ℕ)) =
    twelve a.row_a.now a.col_a.now a.rowcol_a.now a.rowcolval_a.now a.row_b.now a.col_b.now a.rowcol_b.now
    a.rowcolval_b.now a.row_c.now a.col_c.now a.rowcol_c.now a.rowcolval_c.now in
    c.index.ensures
    ∙ ap (λ (k : CircuitWords). fills (index_call baby_bear k (map_three (map_index length) before)) before)
    (handed_on w _ _ _ c.matrix_entries.ensures c.matrix_entries-2.ensures c.matrix_entries-3.ensures)
