-- `grown::changes::remove_entry` meets its contract. Assumes nothing.
use Rattle.std.proofs.Common.{◌≡◌, sym, ap₂, ◌∙◌, true, ℕ, arith}
use Rattle.protocol.specs.Grown.{occupied, taken_at, without_entry}
use Rattle.grown.proofs.ChangeLaws.{taken-within, row-few, remove_no_matrix, remove_no_row, remove_vacant, remove_done}
use Rattle.grown.proofs.changes.remove_entry.Goals as goal
use Rattle.grown.proofs.changes.remove_entry.Goals.{Else-not-taken, then-matrix-ge-MATRICES-via-then-matrix-ge-MATRICES, then-matrix-ge-MATRICES-via-else-matrix-ge-MATRICES+then-row-ge-MAX_ROWS}

-- past the last test: an entry stands there
there : (c : Else-not-taken) → let a = c.args in occupied a.circuit.now a.matrix a.row a.column ≡ true
there c = sym c.find_entry-taken.ensures.0 ∙ c.if-not-taken.false

pub returns-then-matrix-ge-MATRICES : goal.returns-then-matrix-ge-MATRICES
returns-then-matrix-ge-MATRICES c =
    let a = c.args in
    elim c.then-matrix-ge-MATRICES.branch [
      | then-matrix-ge-MATRICES-via-then-matrix-ge-MATRICES w ↦
          remove_no_matrix a.circuit.now a.matrix a.row a.column w.if-matrix-ge-MATRICES.true
      | then-matrix-ge-MATRICES-via-else-matrix-ge-MATRICES+then-row-ge-MAX_ROWS w ↦
          remove_no_row a.circuit.now a.matrix a.row a.column w.if-matrix-ge-MATRICES.false w.if-row-ge-MAX_ROWS.true
    ]

pub returns-then-not-taken : goal.returns-then-not-taken
returns-then-not-taken c =
    let a = c.args in
    remove_vacant a.circuit.now a.matrix a.row a.column c.if-matrix-ge-MATRICES.false c.if-row-ge-MAX_ROWS.false
    (sym c.find_entry-taken.ensures.0 ∙ c.if-not-taken.true)

pub take_entry-requires : goal.take_entry-requires
take_entry-requires c =
    let a = c.args in
    let taken = taken-within a.circuit.now a.matrix a.row a.column (there (goal.at.take_entry-requires c).Else-not-taken) in
    let found = c.find_entry-taken.ensures.1 in
    record {
      circuit_len = omega arith;
      matrix_bound = (c.if-matrix-ge-MATRICES.false, omega (arith, found.0, taken.0));
      before_nonzero = (
        omega (arith, found.1, taken.1),
        (omega (arith, found.1, row-few a.circuit.now a.matrix a.row), c.if-row-ge-MAX_ROWS.false),
      );
    }

pub returns : goal.returns
unfolding without_entry
returns c =
    let a = c.args in
    let found = c.find_entry-taken.ensures.1 in
    remove_done a.circuit.now a.matrix a.row a.column c.if-matrix-ge-MATRICES.false c.if-row-ge-MAX_ROWS.false _
    (there (goal.at.returns c).Else-not-taken)
    (c.take_entry.ensures ∙ ap₂ (λ (place before : ℕ). taken_at a.circuit.now a.matrix place before a.row) found.0 found.1)
