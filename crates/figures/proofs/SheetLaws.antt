-- The sheet by its cases: too long, a wrong line, no circuit, too many circuits, the table. Assumes nothing.
use Rattle.std.proofs.Common.{◌≡◌, sym, ap, ◌∙◌, arith, false, List, map, ℕ, ◌<◌, ◌≤◌, eqb, length}
use Rattle.std.proofs.Math.Option.{none, some}
use borrow.Author.Tests.{le-leb, lt-leb, eq-eqb, ne_eqb}
use Rattle.algebra.proofs.Choice.{pick_true, pick-false}
use Rattle.field.specs.Prime.{Prime}
use Rattle.sheet_lines.specs.Lines.{Given, lines_of, line_of, wrong, circuits}
use Rattle.figures.specs.Figures.{figures}
use Rattle.figures.specs.Sheet.{rows_text, too_long, usage, too_many, unless_wrong, table_text, sheet_text}

module _ (q : Prime) where
  -- the table of some circuits
  module _ (gs : List Given) where
    pub table_empty : length gs ≡ 0 → usage ≡ table_text q gs
    unfolding table_text
    table_empty empty = sym (pick_true _ _ (eq-eqb (length gs) 0 empty))

    not_empty : 0 < length gs → eqb (length gs) 0 ≡ false
    not_empty h = ne_eqb (length gs) 0 (λ e. omega arith)

    pub table-full : 16 < length gs → too_many ≡ table_text q gs
    unfolding table_text
    table-full full = sym (pick-false _ _ (not_empty (omega arith)) ∙ pick-false _ _ (lt-leb (length gs) 16 full))

    pub table-rows : 0 < length gs → length gs ≤ 16 → rows_text gs (figures q) ≡ table_text q gs
    unfolding table_text
    table-rows many few = sym (pick-false _ _ (not_empty many) ∙ pick_true _ _ (le-leb (length gs) 16 few))

  module _ (text : List ℕ) where
    pub sheet_long : 2048 < length text → too_long ≡ sheet_text q text
    unfolding sheet_text
    sheet_long h = sym (pick-false _ _ (lt-leb (length text) 2048 h))

    module _ (short : length text ≤ 2048) where
      pub sheet_wrong : (message : List ℕ) → wrong 1 (map line_of (lines_of text)) ≡ some message → message ≡ sheet_text q text
      unfolding sheet_text
      sheet_wrong message first =
          sym
          (pick_true _ _ (le-leb (length text) 2048 short)
          ∙ ap (λ o. unless_wrong o (table_text q (circuits (map line_of (lines_of text))))) first)

      pub sheet_table : wrong 1 (map line_of (lines_of text)) ≡ none
          → table_text q (circuits (map line_of (lines_of text))) ≡ sheet_text q text
      unfolding sheet_text
      sheet_table first =
          sym
          (pick_true _ _ (le-leb (length text) 2048 short)
          ∙ ap (λ o. unless_wrong o (table_text q (circuits (map line_of (lines_of text))))) first)
