-- `index::fill_index_values` meets its contract: the places below i hold their values. Assumes nothing.
use Rattle.std.proofs.Common.{◌≡◌, ap, ap₂, ◌∙◌, List, ℕ, ◌+◌, ◌≤◌, ◌<◌, arith, length, set}
use Rattle.field.specs.Prime.{Prime}
use Rattle.field.specs.Element.{Elem, of, ◌⊗◌, word_of, words}
use Rattle.field.proofs.Words.{of-result}
use Rattle.domain.specs.Domain.{element}
use Rattle.domain.specs.Qualifies.{Qualifies}
use Rattle.domain.proofs.Fill.{fill_none, rule_turn, rule_end}
use Rattle.protocol.specs.Circuit.{Circuit}
use Rattle.protocol.specs.Index.{Index, map_index, row_element, column_element}
use Rattle.circuit.specs.IndexLists.{index_lists}
use Rattle.index.specs.IndexValues.{tabulate_index, Listed}
use Rattle.index.proofs.IndexValues.{Lengths}
use Rattle.index.proofs.fill_index_values.Invariants.{Made, values}
use Rattle.index.proofs.fill_index_values.Goals as goal
use Rattle.index.proofs.fill_index_values.Goals.{After-multiply}

-- four lists, each with a word stored at place i
abbrev stored : Index (List ℕ) → ℕ → Index ℕ → Index (List ℕ)
stored l i v =
    record {
      row = set l.row i v.row;
      col = set l.col i v.col;
      rowcol = set l.rowcol i v.rowcol;
      rowcolval = set l.rowcolval i v.rowcolval;
    }

module _ {q : Prime} (n : ℕ) (f : ℕ → Index (Elem q)) (l : Index (List ℕ)) where
  made_none : Made q n f l 0
  made_none = record { row = fill_none _ _; col = fill_none _ _; rowcol = fill_none _ _; rowcolval = fill_none _ _ }

  module _ (i : ℕ) (h : Lengths n l) (m : Made q n f l i) where
    made_turn : i < n → (v : Index ℕ) → v ≡ map_index word_of (f i) → Made q n f (stored l i v) (i + 1)
    made_turn below v e =
        record {
          row = rule_turn n (λ j. (f j).row) l.row i v.row h.row-length below m.row (ap (λ i. i.row) e);
          col = rule_turn n (λ j. (f j).col) l.col i v.col h.col-length below m.col (ap (λ i. i.col) e);
          rowcol = rule_turn n (λ j. (f j).rowcol) l.rowcol i v.rowcol h.rowcol-length below m.rowcol (ap (λ i. i.rowcol) e);
          rowcolval =
              rule_turn n (λ j. (f j).rowcolval) l.rowcolval i v.rowcolval h.rowcolval-length below m.rowcolval
              (ap (λ i. i.rowcolval) e);
        }

    made_end : n ≤ i → l ≡ map_index words (tabulate_index n f)
    made_end past = λ t.
        record {
          row = rule_end n (λ j. (f j).row) l.row i h.row-length past m.row t;
          col = rule_end n (λ j. (f j).col) l.col i h.col-length past m.col t;
          rowcol = rule_end n (λ j. (f j).rowcol) l.rowcol i h.rowcol-length past m.rowcol t;
          rowcolval = rule_end n (λ j. (f j).rowcolval) l.rowcolval i h.rowcolval-length past m.rowcolval t;
        }

abbrev made : After-multiply → Index ℕ
made c =
    record {
      row = c.listed_element-by_row.result;
      col = c.listed_element-by_column.result;
      rowcol = c.multiply-product.result;
      rowcolval = c.multiply.result;
    }

-- they are those of the values
made_words : (c : After-multiply) (q : Prime) → let a = c.args in
    Qualifies q → q.p ≡ a.p → (k : Circuit) → Listed q k a.rows.now a.columns.now
    → made c ≡ map_index word_of (values q k a.entries.now c.loop-i.i)
unfolding row_element column_element
made_words c q Q same k listed =
    let row =
    c.listed_element-by_row.ensures q Q k.|R| listed.R-size listed.R-words
    ∙ ap (λ (j : ℕ). (element {q = q} k.|R| j).word) c.word_or_zero.ensures in
    let col =
    c.listed_element-by_column.ensures q Q k.|C| listed.C-size listed.C-words
    ∙ ap (λ (j : ℕ). (element {q = q} k.|C| j).word) c.word_or_zero-in-loop-i.ensures in
    let rowcol = c.multiply-product.ensures q same ∙ ap₂ (λ (s t : Elem q). (s ⊗ t).word) (of-result _ row) (of-result _ col) in
    let rowcolval =
    c.multiply.ensures q same
    ∙ ap₂ (λ (s t : Elem q). (s ⊗ t).word) (of-result _ rowcol) (ap of c.word_or_zero-in-loop-i-2.ensures) in
    λ t. record { row = row t; col = col t; rowcol = rowcol t; rowcolval = rowcolval t }

pub loop-i-init : goal.loop-i-init
loop-i-init c q Q e k listed = made_none _ _ _

pub loop-i-preserved : goal.loop-i-preserved
loop-i-preserved c q Q e k listed =
    let l = c.loop-i in
    let a = c.args in
    let lists : Index (List ℕ) = index_lists l.row l.col l.rowcol l.rowcolval in
    let lengths : Lengths (length a.row.now) lists =
    record { row-length = omega arith; col-length = omega arith; rowcol-length = omega arith; rowcolval-length = omega arith } in
    made_turn (length a.row.now) (values q k a.entries.now) lists l.i lengths (l.invariant q Q e k listed) (omega arith) (made c)
    (made_words c q Q e k listed)

pub returns : goal.returns
returns c q Q e k listed =
    let l = c.loop-i in
    let a = c.args in
    let lists : Index (List ℕ) = index_lists l.row l.col l.rowcol l.rowcolval in
    let lengths : Lengths (length a.row.now) lists =
    record { row-length = omega arith; col-length = omega arith; rowcol-length = omega arith; rowcolval-length = omega arith } in
    made_end (length a.row.now) (values q k a.entries.now) lists l.i lengths (l.invariant q Q e k listed) (omega arith)
