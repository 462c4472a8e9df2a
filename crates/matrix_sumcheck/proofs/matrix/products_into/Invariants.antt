-- What the loop of `matrix_sumcheck::matrix::products_into` keeps. Assumes nothing.
use Rattle.std.proofs.Common.{◌≡◌, List, ℕ, length}
use Rattle.algebra.specs.Lists.{tabulate}
use Rattle.field.specs.Prime.{Prime}
use Rattle.field.specs.Element.{Elem, words}
use Rattle.domain.proofs.Fill.{Filled}
use Rattle.circuit.specs.Given.{entry_words}
use Rattle.matrix_sumcheck.specs.MatrixGiven.{product_of}
use Rattle.matrix_sumcheck.proofs.matrix.products_into.Given as goal

-- what the slice is to hold
abbrev pub rule : (q : Prime) → List ℕ → List ℕ → List ℕ → ℕ → Elem q
rule q rows columns entries i = product_of rows columns (entry_words entries i)

abbrev pub invariant-loop-i : goal.invariant-loop-i
invariant-loop-i l =
    (q : Prime) → q.p ≡ l.p → Filled
    (words (tabulate (length l.initial.out) (rule q l.factors.rows.now l.factors.columns.now l.entries))) l.out l.i
