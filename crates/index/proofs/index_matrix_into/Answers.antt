-- `index::index_matrix_into` meets its contract: the four lists of values, each interpolated. Assumes nothing.
use mathlib.Core.Path.{◌≡◌, refl, sym, ap, ◌∙◌}
use mathlib.Core.List.{List}
use Prim.Native.Nat.{ℕ}
use native.Mathlib.Omega.{arith}
use lib.ListN.{length}
use Rattle.domain.specs.Size.{is_size}
use Rattle.domain.specs.Domain.{root}
use Rattle.domain.proofs.SizeLaws.{size_is, size_bound}
use Rattle.domain.proofs.Qualification.{known-qualifies}
use Rattle.poly.proofs.LentParts.{lent_length, back_holds, back_length}
use Rattle.transform.proofs.TableLaws.{coefficients_lent}
use Rattle.circuit.specs.IndexLists.{index_lists, IndexLengths}
use Rattle.index.proofs.IndexValues.{index_interpolated}
use Rattle.index.proofs.index_matrix_into.Goals as goal

-- the lengths of four lists, of which a call keeps each
module _ {n : ℕ} {row col rowcol rowcolval : List ℕ} (h : IndexLengths n row col rowcol rowcolval) where
  even : IndexLengths (length row) row col rowcol rowcolval
  even =
      record {
        row-length = refl;
        col-length = h.col-length ∙ sym h.row-length;
        rowcol-length = h.rowcol-length ∙ sym h.row-length;
        rowcolval-length = h.rowcolval-length ∙ sym h.row-length;
      }

  still : (row' col' rowcol' rowcolval' : List ℕ) → length row' ≡ length row → length col' ≡ length col
      → length rowcol' ≡ length rowcol → length rowcolval' ≡ length rowcolval
      → IndexLengths n row' col' rowcol' rowcolval'
  still row' col' rowcol' rowcolval' er ec erc ev =
      record {
        row-length = er ∙ h.row-length;
        col-length = ec ∙ h.col-length;
        rowcol-length = erc ∙ h.rowcol-length;
        rowcolval-length = ev ∙ h.rowcolval-length;
      }

pub fill_index_values-requires : goal.fill_index_values-requires
fill_index_values-requires c =
    let h = c.requires in record {
      p_nonzero = omega (arith, h.lt_p);
      rows_nonzero = (h.rows_nonzero.0, h.rows_nonzero.1.0);
      index_lengths = even h.index_lengths;
    }

pub overflow_cast-n : goal.overflow_cast-n
overflow_cast-n c = omega (arith, size_bound _ (size_is _ (c.fill_index_values.auto.row ∙ c.requires.index_lengths.row-length)))

pub root_of-root-requires : goal.root_of-root-requires
root_of-root-requires c = size_is _ (c.fill_index_values.auto.row ∙ c.requires.index_lengths.row-length)

pub slice_bounds-powers-end : goal.slice_bounds-powers-end
slice_bounds-powers-end c = size_bound _ (size_is _ (c.fill_index_values.auto.row ∙ c.requires.index_lengths.row-length))

pub slice_bounds-fill_inverse_tables-end : goal.slice_bounds-fill_inverse_tables-end
slice_bounds-fill_inverse_tables-end c = lent_length 1024 (size_bound _ (size_is _ (c.fill_index_values.auto.row ∙ c.requires.index_lengths.row-length)))

pub slice_bounds-quotients-end : goal.slice_bounds-quotients-end
slice_bounds-quotients-end c = size_bound _ (size_is _ (c.fill_index_values.auto.row ∙ c.requires.index_lengths.row-length))

pub slice_bounds-fill_inverse_tables-end-2 : goal.slice_bounds-fill_inverse_tables-end-2
slice_bounds-fill_inverse_tables-end-2 c = lent_length 1024 (size_bound _ (size_is _ (c.fill_index_values.auto.row ∙ c.requires.index_lengths.row-length)))

pub fill_inverse_tables-requires : goal.fill_inverse_tables-requires
fill_inverse_tables-requires c =
    let size = size_is _ (c.fill_index_values.auto.row ∙ c.requires.index_lengths.row-length) in
    let part = lent_length 1024 (size_bound _ size) in
    record {
      lt_p = c.requires.lt_p;
      quotients_len = (sym part ∙ part, ap is_size (sym part) ∙ size);
    }

pub slice_bounds-powers-end-2 : goal.slice_bounds-powers-end-2
slice_bounds-powers-end-2 c = back_holds 1024 (size_bound _ (size_is _ (c.fill_index_values.auto.row ∙ c.requires.index_lengths.row-length))) c.fill_inverse_tables.new.powers c.fill_inverse_tables.auto.powers

pub slice_bounds-interpolate_four-end : goal.slice_bounds-interpolate_four-end
slice_bounds-interpolate_four-end c = back_length 1024 (size_bound _ (size_is _ (c.fill_index_values.auto.row ∙ c.requires.index_lengths.row-length))) c.fill_inverse_tables.new.powers c.fill_inverse_tables.auto.powers

pub slice_bounds-quotients-end-2 : goal.slice_bounds-quotients-end-2
slice_bounds-quotients-end-2 c = back_holds 1024 (size_bound _ (size_is _ (c.fill_index_values.auto.row ∙ c.requires.index_lengths.row-length))) c.fill_inverse_tables.new.quotients c.fill_inverse_tables.auto.quotients

pub slice_bounds-interpolate_four-end-2 : goal.slice_bounds-interpolate_four-end-2
slice_bounds-interpolate_four-end-2 c = back_length 1024 (size_bound _ (size_is _ (c.fill_index_values.auto.row ∙ c.requires.index_lengths.row-length))) c.fill_inverse_tables.new.quotients c.fill_inverse_tables.auto.quotients

pub interpolate_four-requires : goal.interpolate_four-requires
interpolate_four-requires c =
    let size = size_is _ (c.fill_index_values.auto.row ∙ c.requires.index_lengths.row-length) in
    let fits = size_bound _ size in
    let call = c.fill_inverse_tables in
    let lengths = still c.requires.index_lengths _ _ _ _ c.fill_index_values.auto.row c.fill_index_values.auto.col
    c.fill_index_values.auto.rowcol c.fill_index_values.auto.rowcolval in record {
      lt_p = c.requires.lt_p;
      row_value = size;
      row_in_bounds = (
        omega (arith, back_length 1024 fits call.new.powers call.auto.powers),
        omega (arith, back_length 1024 fits call.new.quotients call.auto.quotients),
      );
      index_lengths = even lengths;
    }

pub returns : goal.returns
returns c q known k M listed matrix =
    let h = c.requires in
    let v = c.fill_index_values in
    let fits = size_bound _ (size_is _ (v.auto.row ∙ h.index_lengths.row-length)) in
    let call = c.fill_inverse_tables in
    let (row, col, rowcol, rowcolval) =
    c.interpolate_four.ensures q known
    (coefficients_lent q 1024 fits call.new.powers call.new.quotients call.auto.powers call.auto.quotients
    (call.ensures q known.value (c.root_of-root.ensures q known ∙ ap (λ (k : ℕ). (root {q = q} k).word) (lent_length 1024 fits)))) in
    index_interpolated q k M c.args.entries.now h.rows_nonzero.1.1 matrix (length c.args.row.now) h.index_lengths.row-length
    (index_lists v.new.row v.new.col v.new.rowcol v.new.rowcolval)
    (still c.requires.index_lengths _ _ _ _ c.fill_index_values.auto.row c.fill_index_values.auto.col
    c.fill_index_values.auto.rowcol c.fill_index_values.auto.rowcolval)
    (v.ensures q (known-qualifies known) known.value k listed) row col rowcol rowcolval
