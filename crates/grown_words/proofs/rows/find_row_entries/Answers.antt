-- `grown_words::rows::find_row_entries` meets its contract. Assumes nothing.
use Rattle.std.proofs.Common.{ap, ap₂, ◌∙◌, ℕ, ◌+◌, ◌-◌, ◌*◌, arith}
use Rattle.protocol.specs.Refusals.{Done}
use Rattle.protocol.specs.Grown.{row_start, row_length}
use Rattle.grown_words.proofs.PlaceLaws.{span_within, no_matrix, no_room_for_row, no_row, row-found}
use Rattle.grown_words.proofs.rows.find_row_entries.Goals as goal
use Rattle.grown_words.proofs.rows.find_row_entries.Goals.{then-matrix-ge-MATRICES-via-then-matrix-ge-MATRICES, then-matrix-ge-MATRICES-via-else-matrix-ge-MATRICES+then-row-ge-MAX_ROWS, then-matrix-ge-MATRICES-via-else-matrix-ge-MATRICES+else-row-ge-MAX_ROWS+then-row-circuit}

pub returns-then-matrix-ge-MATRICES-clause-result_value : goal.returns-then-matrix-ge-MATRICES-clause-result_value
returns-then-matrix-ge-MATRICES-clause-result_value c =
    let a = c.args in
    elim c.then-matrix-ge-MATRICES.branch [
      | then-matrix-ge-MATRICES-via-then-matrix-ge-MATRICES w ↦ no_matrix a.circuit.now a.matrix a.row w.if-matrix-ge-MATRICES.true
      | then-matrix-ge-MATRICES-via-else-matrix-ge-MATRICES+then-row-ge-MAX_ROWS w ↦
          no_room_for_row a.circuit.now a.matrix a.row w.if-matrix-ge-MATRICES.false w.if-row-ge-MAX_ROWS.true
      | then-matrix-ge-MATRICES-via-else-matrix-ge-MATRICES+else-row-ge-MAX_ROWS+then-row-circuit w ↦
          no_row a.circuit.now a.matrix a.row w.if-matrix-ge-MATRICES.false w.if-row-ge-MAX_ROWS.false w.if-row-circuit.true
    ]

pub overflow_mul-result : goal.overflow_mul-result
overflow_mul-result c = omega (arith, span_within c.args.circuit.now c.args.matrix c.args.row c.find_row-span.ensures)

pub overflow_add-result : goal.overflow_add-result
overflow_add-result c = omega (arith, span_within c.args.circuit.now c.args.matrix c.args.row c.find_row-span.ensures)

pub overflow_sub-result : goal.overflow_sub-result
overflow_sub-result c = (span_within c.args.circuit.now c.args.matrix c.args.row c.find_row-span.ensures).0

pub overflow_mul-result-2 : goal.overflow_mul-result-2
overflow_mul-result-2 c = omega (arith, span_within c.args.circuit.now c.args.matrix c.args.row c.find_row-span.ensures)

pub returns : goal.returns
returns c =
    let a = c.args in
    let w = a.circuit.now in
    let span = c.find_row-span in
    record {
      result_value =
          ap₂ (λ (start end : ℕ). Done (c.entries_place.result + 3 * start, 3 * (end - start))) span.ensures.0 span.ensures.1
          ∙ ap (λ (k : ℕ). Done (k + 3 * row_start w a.matrix a.row, 3 * row_length w a.matrix a.row)) c.entries_place.ensures
          ∙ row-found w a.matrix a.row c.if-matrix-ge-MATRICES.false c.if-row-ge-MAX_ROWS.false c.if-row-circuit.false;
      within = omega (arith, span_within w a.matrix a.row span.ensures);
    }
