-- What the loop of `index::fill_index_values` keeps. Assumes nothing.
use Rattle.std.proofs.Common.{◌≡◌, List, ℕ, length}
use Rattle.algebra.specs.Lists.{tabulate}
use Rattle.field.specs.Prime.{Prime}
use Rattle.field.specs.Element.{Elem, words}
use Rattle.domain.specs.Qualifies.{Qualifies}
use Rattle.domain.proofs.Fill.{Filled}
use Rattle.protocol.specs.Circuit.{Circuit}
use Rattle.protocol.specs.Index.{Index}
use Rattle.protocol.proofs.IndexPolynomials.{entry_index}
use Rattle.circuit.specs.Given.{entry_words}
use Rattle.circuit.specs.IndexLists.{index_lists}
use Rattle.index.specs.IndexValues.{Listed}
use Rattle.index.proofs.fill_index_values.Given as goal

-- the first i words of each list are those of the values
pub record Made (q : Prime) (n : ℕ) (f : ℕ → Index (Elem q)) (l : Index (List ℕ)) (i : ℕ) : Type 0 where
  pub row : Filled (words (tabulate n (λ j. (f j).row))) l.row i
  pub col : Filled (words (tabulate n (λ j. (f j).col))) l.col i
  pub rowcol : Filled (words (tabulate n (λ j. (f j).rowcol))) l.rowcol i
  pub rowcolval : Filled (words (tabulate n (λ j. (f j).rowcolval))) l.rowcolval i

-- the values at each place
abbrev pub values : (q : Prime) → Circuit → List ℕ → ℕ → Index (Elem q)
values q k entries i = entry_index k (entry_words entries i)

abbrev pub invariant-loop-i : goal.invariant-loop-i
invariant-loop-i l =
    (q : Prime) → Qualifies q → q.p ≡ l.p → (k : Circuit) → Listed q k l.rows l.columns
    → Made q (length l.initial.row) (values q k l.entries) (index_lists l.row l.col l.rowcol l.rowcolval) l.i
