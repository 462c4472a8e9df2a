-- `grown::changes::find_entry` meets its contract. Assumes nothing.
use Rattle.std.proofs.Common.{ap₂, ◌∙◌, ℕ, ◌-◌, ◌≤◌, arith}
use Rattle.domain.specs.Size.{max_size}
use Rattle.grown_words.proofs.PlaceLaws.{span_within}
use Rattle.grown.proofs.ChangeLaws.{place_from, taken_from}
use Rattle.grown.proofs.changes.find_entry.Goals as goal
use Rattle.grown.proofs.changes.find_entry.Goals.{After-find_row-start}

-- the row that is found lies within the matrix
within : (c : After-find_row-start)
    → (c.find_row-start.result.start ≤ c.find_row-start.result.end) × (c.find_row-start.result.end ≤ max_size)
within c = let a = c.args in span_within a.circuit.now a.matrix a.row c.find_row-start.ensures

pub find_place-place-requires-clause-matrix_bound : goal.find_place-place-requires-clause-matrix_bound
find_place-place-requires-clause-matrix_bound c =
    (omega arith, within (goal.at.find_place-place-requires-clause-matrix_bound c).After-find_row-start)

pub is_taken-requires-clause-matrix_bound : goal.is_taken-requires-clause-matrix_bound
is_taken-requires-clause-matrix_bound c =
    (omega arith, (within (goal.at.is_taken-requires-clause-matrix_bound c).After-find_row-start).1)

pub overflow_sub-result : goal.overflow_sub-result
overflow_sub-result c = (within (goal.at.overflow_sub-result c).After-find_row-start).0

pub returns : goal.returns
returns c =
    let a = c.args in
    let w = a.circuit.now in
    let row = c.find_row-start.ensures in
    let place = place_from w a.matrix a.row a.column row.0 row.1 c.find_place-place.ensures in (
      c.is_taken.ensures ∙ taken_from w a.matrix a.row a.column row.1 place,
      (place, ap₂ (λ (from to : ℕ). to - from) row.0 row.1),
    )
