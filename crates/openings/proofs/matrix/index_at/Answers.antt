-- `openings::matrix::index_at` meets its contract. Assumes nothing.
use mathlib.Core.Path.{◌≡◌, refl, sym, ap, ◌∙◌}
use mathlib.Core.Bool.{true}
use mathlib.Core.List.{List}
use Prim.Native.Nat.{ℕ}
use native.Mathlib.Omega.{arith}
use lib.ListN.{length}
use Rattle.field.specs.Element.{Elem, words}
use Rattle.domain.specs.Size.{is_size}
use Rattle.domain.specs.Polynomial.{Poly, eval, interpolate}
use Rattle.domain.proofs.SizeLaws.{size_fits, size_for_is_size}
use Rattle.domain.proofs.Qualification.{known-qualifies}
use Rattle.protocol.specs.Index.{Index, map_index, index}
use Rattle.poly.proofs.LentParts.{lent_length}
use Rattle.index.specs.IndexValues.{index_values}
use Rattle.index.proofs.IndexValues.{index_by_words}
use Rattle.openings.proofs.OpeningLaws.{made_in, made_holds, made_length, made_list, four_same}
use Rattle.openings.proofs.matrix.index_at.Goals as goal

pub slice_bounds-row-end : goal.slice_bounds-row-end
slice_bounds-row-end c = size_fits _ c.requires.places_len

pub slice_bounds-index_values_into-end : goal.slice_bounds-index_values_into-end
slice_bounds-index_values_into-end c = lent_length 1024 (size_fits _ c.requires.places_len)

pub slice_bounds-col-end : goal.slice_bounds-col-end
slice_bounds-col-end c = size_fits _ c.requires.places_len

pub slice_bounds-index_values_into-end-2 : goal.slice_bounds-index_values_into-end-2
slice_bounds-index_values_into-end-2 c = lent_length 1024 (size_fits _ c.requires.places_len)

pub slice_bounds-rowcol-end : goal.slice_bounds-rowcol-end
slice_bounds-rowcol-end c = size_fits _ c.requires.places_len

pub slice_bounds-index_values_into-end-3 : goal.slice_bounds-index_values_into-end-3
slice_bounds-index_values_into-end-3 c = lent_length 1024 (size_fits _ c.requires.places_len)

pub slice_bounds-rowcolval-end : goal.slice_bounds-rowcolval-end
slice_bounds-rowcolval-end c = size_fits _ c.requires.places_len

pub slice_bounds-index_values_into-end-4 : goal.slice_bounds-index_values_into-end-4
slice_bounds-index_values_into-end-4 c = lent_length 1024 (size_fits _ c.requires.places_len)

pub index_values_into-requires : goal.index_values_into-requires
index_values_into-requires c =
    record {
      lt_p = c.requires.lt_p;
      r_value = c.requires.r_value;
      index_lengths = record { row-length = refl; col-length = refl; rowcol-length = refl; rowcolval-length = refl };
    }

pub slice_bounds-row-end-2 : goal.slice_bounds-row-end-2
slice_bounds-row-end-2 c = made_holds (made_in c.index_values_into.new.row (size_fits _ c.requires.places_len) c.index_values_into.auto.row)

pub slice_bounds-interpolated_at-end : goal.slice_bounds-interpolated_at-end
slice_bounds-interpolated_at-end c =
    made_length (made_in c.index_values_into.new.row (size_fits _ c.requires.places_len) c.index_values_into.auto.row)

pub interpolated_at-requires : goal.interpolated_at-requires
interpolated_at-requires c =
    record {
      p_nonzero = omega (arith, c.requires.lt_p);
      values_len = sym (made_length (made_in c.index_values_into.new.row (size_fits _ c.requires.places_len) c.index_values_into.auto.row));
    }

pub slice_bounds-col-end-2 : goal.slice_bounds-col-end-2
slice_bounds-col-end-2 c = made_holds (made_in c.index_values_into.new.col (size_fits _ c.requires.places_len) c.index_values_into.auto.col)

pub slice_bounds-interpolated_at-end-2 : goal.slice_bounds-interpolated_at-end-2
slice_bounds-interpolated_at-end-2 c =
    made_length (made_in c.index_values_into.new.col (size_fits _ c.requires.places_len) c.index_values_into.auto.col)

pub interpolated_at-requires-2 : goal.interpolated_at-requires-2
interpolated_at-requires-2 c =
    record {
      p_nonzero = omega (arith, c.requires.lt_p);
      values_len = sym (made_length (made_in c.index_values_into.new.col (size_fits _ c.requires.places_len) c.index_values_into.auto.col));
    }

pub slice_bounds-rowcol-end-2 : goal.slice_bounds-rowcol-end-2
slice_bounds-rowcol-end-2 c =
    made_holds (made_in c.index_values_into.new.rowcol (size_fits _ c.requires.places_len) c.index_values_into.auto.rowcol)

pub slice_bounds-interpolated_at-end-3 : goal.slice_bounds-interpolated_at-end-3
slice_bounds-interpolated_at-end-3 c =
    made_length (made_in c.index_values_into.new.rowcol (size_fits _ c.requires.places_len) c.index_values_into.auto.rowcol)

pub interpolated_at-requires-3 : goal.interpolated_at-requires-3
interpolated_at-requires-3 c =
    record {
      p_nonzero = omega (arith, c.requires.lt_p);
      values_len = sym (made_length (made_in c.index_values_into.new.rowcol (size_fits _ c.requires.places_len) c.index_values_into.auto.rowcol));
    }

pub slice_bounds-rowcolval-end-2 : goal.slice_bounds-rowcolval-end-2
slice_bounds-rowcolval-end-2 c =
    made_holds (made_in c.index_values_into.new.rowcolval (size_fits _ c.requires.places_len) c.index_values_into.auto.rowcolval)

pub slice_bounds-interpolated_at-end-4 : goal.slice_bounds-interpolated_at-end-4
slice_bounds-interpolated_at-end-4 c =
    made_length (made_in c.index_values_into.new.rowcolval (size_fits _ c.requires.places_len) c.index_values_into.auto.rowcolval)

pub interpolated_at-requires-4 : goal.interpolated_at-requires-4
interpolated_at-requires-4 c =
    record {
      p_nonzero = omega (arith, c.requires.lt_p);
      values_len =
          sym (made_length (made_in c.index_values_into.new.rowcolval (size_fits _ c.requires.places_len) c.index_values_into.auto.rowcolval));
    }

pub returns : goal.returns
returns c q K k M eR eC matrix y lagrange =
    let a = c.args in
    let n : ℕ = length a.places.now in
    let e = K.value in
    let Q = known-qualifies K in
    let sized : is_size n ≡ true = ap is_size c.requires.places_len ∙ size_for_is_size _ in
    let f : Index (List (Elem q)) = index_values k a.entries.now n in
    let same : map_index (interpolate n) f ≡ index k M =
    ap (λ (m : ℕ). map_index (interpolate m) (index_values k a.entries.now m)) c.requires.places_len
    ∙ sym (index_by_words q k M a.entries.now c.requires.entry_words matrix) in
    let made = c.index_values_into.ensures q K k eR eC
    ∙ ap (λ (m : ℕ). map_index words (index_values {q = q} k a.entries.now m))
    (sym (lent_length 1024 (size_fits _ c.requires.places_len))) in
    let value : List (Elem q) → ℕ = λ l. (eval (interpolate n l) y).word in
    four_same
    (c.interpolated_at.ensures q Q e n sized y lagrange
    ∙ ap value (made_list (made_in c.index_values_into.new.row (size_fits _ c.requires.places_len) c.index_values_into.auto.row) f.row
    (ap (λ (i : Index (List ℕ)). i.row) made))
    ∙ ap (λ (i : Index (Poly q)). (eval i.row y).word) same)
    (c.interpolated_at-2.ensures q Q e n sized y lagrange
    ∙ ap value (made_list (made_in c.index_values_into.new.col (size_fits _ c.requires.places_len) c.index_values_into.auto.col) f.col
    (ap (λ (i : Index (List ℕ)). i.col) made))
    ∙ ap (λ (i : Index (Poly q)). (eval i.col y).word) same)
    (c.interpolated_at-3.ensures q Q e n sized y lagrange
    ∙ ap value (made_list
    (made_in c.index_values_into.new.rowcol (size_fits _ c.requires.places_len) c.index_values_into.auto.rowcol) f.rowcol
    (ap (λ (i : Index (List ℕ)). i.rowcol) made))
    ∙ ap (λ (i : Index (Poly q)). (eval i.rowcol y).word) same)
    (c.interpolated_at-4.ensures q Q e n sized y lagrange
    ∙ ap value (made_list
    (made_in c.index_values_into.new.rowcolval (size_fits _ c.requires.places_len) c.index_values_into.auto.rowcolval) f.rowcolval
    (ap (λ (i : Index (List ℕ)). i.rowcolval) made))
    ∙ ap (λ (i : Index (Poly q)). (eval i.rowcolval y).word) same)
