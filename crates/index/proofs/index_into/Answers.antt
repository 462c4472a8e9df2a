-- `index::index_into` meets its contract: the elements of R and C are listed once, for three matrices. Assumes nothing.
use mathlib.Core.Path.{◌≡◌, ap, ◌∙◌, subst}
use mathlib.Core.Bool.{true}
use Prim.Native.Nat.{ℕ, ◌<◌}
use Rattle.domain.specs.Size.{is_size}
use Rattle.domain.proofs.SizeLaws.{size_positive, size_bound}
use Rattle.poly.proofs.LentParts.{lent_length, back_holds, back_length}
use Rattle.protocol.specs.Three.{A, B, C}
use Rattle.index.specs.IndexValues.{Listed}
use Rattle.index.proofs.IndexValues.{listed}
use Rattle.index.proofs.index_into.Goals as goal

-- a list as long as a size, lent the second time, isn't empty
some : {m n : ℕ} → m ≡ n → is_size m ≡ true → 0 < n
some {m = m} e h = subst (λ (k : ℕ). 0 < k) e (size_positive m h)

pub root_of-requires : goal.root_of-requires
root_of-requires c = c.requires.circuit_shaped.R-size

pub slice_bounds-rows-end : goal.slice_bounds-rows-end
slice_bounds-rows-end c = size_bound _ c.requires.circuit_shaped.R-size

pub slice_bounds-fill_powers-end : goal.slice_bounds-fill_powers-end
slice_bounds-fill_powers-end c = lent_length 1024 (size_bound _ c.requires.circuit_shaped.R-size)

pub root_of-requires-2 : goal.root_of-requires-2
root_of-requires-2 c = c.requires.circuit_shaped.C-size

pub slice_bounds-columns-end : goal.slice_bounds-columns-end
slice_bounds-columns-end c = size_bound _ c.requires.circuit_shaped.C-size

pub slice_bounds-fill_powers-end-2 : goal.slice_bounds-fill_powers-end-2
slice_bounds-fill_powers-end-2 c = lent_length 1024 (size_bound _ c.requires.circuit_shaped.C-size)

pub slice_bounds-rows-end-2 : goal.slice_bounds-rows-end-2
slice_bounds-rows-end-2 c = back_holds 1024 (size_bound _ c.requires.circuit_shaped.R-size) c.fill_powers.new.out c.fill_powers.auto.out

pub slice_bounds-u-end : goal.slice_bounds-u-end
slice_bounds-u-end c = back_length 1024 (size_bound _ c.requires.circuit_shaped.R-size) c.fill_powers.new.out c.fill_powers.auto.out

pub slice_bounds-columns-end-2 : goal.slice_bounds-columns-end-2
slice_bounds-columns-end-2 c = back_holds 1024 (size_bound _ c.requires.circuit_shaped.C-size) c.fill_powers-2.new.out c.fill_powers-2.auto.out

pub slice_bounds-v-end : goal.slice_bounds-v-end
slice_bounds-v-end c = back_length 1024 (size_bound _ c.requires.circuit_shaped.C-size) c.fill_powers-2.new.out c.fill_powers-2.auto.out

pub index_matrix_into-requires : goal.index_matrix_into-requires
index_matrix_into-requires c =
    let h = c.requires in
    record {
      lt_p = h.lt_p;
      rows_nonzero = (
        some (back_length 1024 (size_bound _ c.requires.circuit_shaped.R-size) c.fill_powers.new.out c.fill_powers.auto.out) h.circuit_shaped.R-size,
        (
          some (back_length 1024 (size_bound _ c.requires.circuit_shaped.C-size) c.fill_powers-2.new.out c.fill_powers-2.auto.out) h.circuit_shaped.C-size,
          h.circuit_shaped.lists.list-a,
        ),
      );
      index_lengths = h.index_lengths;
    }

pub index_matrix_into-requires-2 : goal.index_matrix_into-requires-2
index_matrix_into-requires-2 c =
    let h = c.requires in
    record {
      lt_p = h.lt_p;
      rows_nonzero = (
        some (back_length 1024 (size_bound _ c.requires.circuit_shaped.R-size) c.fill_powers.new.out c.fill_powers.auto.out) h.circuit_shaped.R-size,
        (
          some (back_length 1024 (size_bound _ c.requires.circuit_shaped.C-size) c.fill_powers-2.new.out c.fill_powers-2.auto.out) h.circuit_shaped.C-size,
          h.circuit_shaped.lists.list-b,
        ),
      );
      index_lengths = h.index_lengths_2;
    }

pub index_matrix_into-requires-3 : goal.index_matrix_into-requires-3
index_matrix_into-requires-3 c =
    let h = c.requires in
    record {
      lt_p = h.lt_p;
      rows_nonzero = (
        some (back_length 1024 (size_bound _ c.requires.circuit_shaped.R-size) c.fill_powers.new.out c.fill_powers.auto.out) h.circuit_shaped.R-size,
        (
          some (back_length 1024 (size_bound _ c.requires.circuit_shaped.C-size) c.fill_powers-2.new.out c.fill_powers-2.auto.out) h.circuit_shaped.C-size,
          h.circuit_shaped.lists.list-c,
        ),
      );
      index_lengths = h.index_lengths_3;
    }

pub returns : goal.returns
returns c q known k er ec matrices =
    let h = c.requires.circuit_shaped in
    let both : Listed q k _ _ =
    record {
      R-size = ap is_size er ∙ h.R-size;
      C-size = ap is_size ec ∙ h.C-size;
      R-words =
          listed q c.fill_powers.new.out er (size_bound _ h.R-size) c.fill_powers.auto.out
          (c.root_of.ensures q known) (c.fill_powers.ensures q known.value);
      C-words =
          listed q c.fill_powers-2.new.out ec (size_bound _ h.C-size) c.fill_powers-2.auto.out
          (c.root_of-2.ensures q known) (c.fill_powers-2.ensures q known.value);
    } in
    record {
      of-a = c.index_matrix_into.ensures q known k A both (ap (λ m. m.a) matrices);
      of-b = c.index_matrix_into-2.ensures q known k B both (ap (λ m. m.b) matrices);
      of_c = c.index_matrix_into-3.ensures q known k C both (ap (λ m. m.c) matrices);
    }
