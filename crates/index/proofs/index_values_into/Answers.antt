-- `index::index_values_into` meets its contract. Assumes nothing.
use mathlib.Core.Path.{ap, ◌∙◌, subst}
use Prim.Native.Nat.{ℕ, ◌<◌}
use native.Mathlib.Omega.{arith}
use Rattle.domain.specs.Size.{is_size}
use Rattle.domain.proofs.Qualification.{known-qualifies}
use Rattle.domain.proofs.SizeLaws.{size_positive, size_bound}
use Rattle.poly.proofs.LentParts.{lent_length, back_holds, back_length}
use Rattle.index.proofs.IndexValues.{listed}
use Rattle.index.proofs.index_values_into.Goals as goal

pub slice_bounds-rows-end : goal.slice_bounds-rows-end
slice_bounds-rows-end c = size_bound _ c.requires.r_value.0

pub slice_bounds-fill_powers-end : goal.slice_bounds-fill_powers-end
slice_bounds-fill_powers-end c = lent_length 1024 (size_bound _ c.requires.r_value.0)

pub slice_bounds-columns-end : goal.slice_bounds-columns-end
slice_bounds-columns-end c = size_bound _ c.requires.r_value.1

pub slice_bounds-fill_powers-end-2 : goal.slice_bounds-fill_powers-end-2
slice_bounds-fill_powers-end-2 c = lent_length 1024 (size_bound _ c.requires.r_value.1)

pub slice_bounds-rows-end-2 : goal.slice_bounds-rows-end-2
slice_bounds-rows-end-2 c =
    back_holds 1024 (size_bound _ c.requires.r_value.0) c.fill_powers.new.out c.fill_powers.auto.out

pub slice_bounds-fill_index_values-end : goal.slice_bounds-fill_index_values-end
slice_bounds-fill_index_values-end c =
    back_length 1024 (size_bound _ c.requires.r_value.0) c.fill_powers.new.out c.fill_powers.auto.out

pub slice_bounds-columns-end-2 : goal.slice_bounds-columns-end-2
slice_bounds-columns-end-2 c =
    back_holds 1024 (size_bound _ c.requires.r_value.1) c.fill_powers-2.new.out c.fill_powers-2.auto.out

pub slice_bounds-fill_index_values-end-2 : goal.slice_bounds-fill_index_values-end-2
slice_bounds-fill_index_values-end-2 c =
    back_length 1024 (size_bound _ c.requires.r_value.1) c.fill_powers-2.new.out c.fill_powers-2.auto.out

pub fill_index_values-requires : goal.fill_index_values-requires
fill_index_values-requires c =
    let h = c.requires in record {
      p_nonzero = omega (arith, h.lt_p);
      rows_nonzero = (
        subst (λ (n : ℕ). 0 < n)
            (back_length 1024 (size_bound _ h.r_value.0) c.fill_powers.new.out c.fill_powers.auto.out)
            (size_positive _ h.r_value.0),
        subst (λ (n : ℕ). 0 < n)
            (back_length 1024 (size_bound _ h.r_value.1) c.fill_powers-2.new.out c.fill_powers-2.auto.out)
            (size_positive _ h.r_value.1),
      );
      index_lengths = h.index_lengths;
    }

pub returns : goal.returns
returns c q known k er ec =
    let h = c.requires.r_value in
    c.fill_index_values.ensures q (known-qualifies known) known.value k
    (record {
      R-size = ap is_size er ∙ h.0;
      C-size = ap is_size ec ∙ h.1;
      R-words =
          listed q c.fill_powers.new.out er (size_bound _ h.0) c.fill_powers.auto.out
          (c.root_of.ensures q known) (c.fill_powers.ensures q known.value);
      C-words =
          listed q c.fill_powers-2.new.out ec (size_bound _ h.1) c.fill_powers-2.auto.out
          (c.root_of-2.ensures q known) (c.fill_powers-2.ensures q known.value);
    })
