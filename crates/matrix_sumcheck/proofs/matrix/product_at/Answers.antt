-- `matrix_sumcheck::matrix::product_at` meets its contract. Assumes nothing.
use mathlib.Core.Path.{ap₂, ◌∙◌, subst, sym}
use Prim.Native.Nat.{ℕ, ◌<◌}
use lib.ListN.{length, get_or}
use Rattle.field.specs.Element.{of, ◌⊗◌}
use Rattle.matrix_sumcheck.proofs.MatrixTerms.{within-at}
use Rattle.matrix_sumcheck.proofs.matrix.product_at.Goals as goal

pub bounds-factors-row : goal.bounds-factors-row
bounds-factors-row c =
    subst (λ (i : ℕ). i < length c.args.factors.now.rows.now) (sym c.word_or_zero-row.ensures)
    (within-at c.requires.entries_within c.args.i).row_below

pub bounds-factors-column : goal.bounds-factors-column
bounds-factors-column c =
    subst (λ (i : ℕ). i < length c.args.factors.now.columns.now) (sym c.word_or_zero-column.ensures)
    (within-at c.requires.entries_within c.args.i).column-below

pub returns : goal.returns
returns c q e =
    let a = c.args in
    c.multiply.ensures q e
    ∙ ap₂ (λ (i j : ℕ). (of {q = q} (get_or a.factors.now.rows.now i 0) ⊗ of
    (get_or a.factors.now.columns.now j 0)).word) c.word_or_zero-row.ensures
    c.word_or_zero-column.ensures
