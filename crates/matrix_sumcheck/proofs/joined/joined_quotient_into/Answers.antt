-- `matrix_sumcheck::joined::joined_quotient_into` meets its contract: the lists of the rows and of the columns, then the three matrices.
-- Assumes nothing.
use mathlib.Core.Path.{◌≡◌, sym, ap, ◌∙◌}
use mathlib.Core.Bool.{true}
use Prim.Native.Nat.{ℕ}
use lib.ListN.{length, take}
use Rattle.field.specs.Element.{of}
use Rattle.domain.specs.Size.{is_size}
use Rattle.domain.proofs.SizeLaws.{size_bound}
use Rattle.protocol.specs.Three.{A}
use Rattle.poly.proofs.LentParts.{array, lent_length, back_holds, back_length}
use Rattle.matrix_sumcheck.specs.MatrixGiven.{lagrange_values, distances}
use Rattle.matrix_sumcheck.proofs.GivenLaws.{three-within, lent-list}
use Rattle.matrix_sumcheck.proofs.joined.joined_quotient_into.Goals as goal

-- a part that an array lends has a size as its length
lent_size : (n : ℕ) → is_size n ≡ true → is_size (length (take n (array 1024))) ≡ true
lent_size n size = ap is_size (sym (lent_length 1024 (size_bound n size))) ∙ size

pub slice_bounds-rows-end : goal.slice_bounds-rows-end
slice_bounds-rows-end c = size_bound _ c.requires.circuit_shaped.R-size

pub slice_bounds-lagrange_values_into-end : goal.slice_bounds-lagrange_values_into-end
slice_bounds-lagrange_values_into-end c = lent_length 1024 (size_bound _ c.requires.circuit_shaped.R-size)

pub lagrange_values_into-requires : goal.lagrange_values_into-requires
lagrange_values_into-requires c = record { lt_p = c.requires.modulus.0; out_value = lent_size _ c.requires.circuit_shaped.R-size }

pub slice_bounds-columns-end : goal.slice_bounds-columns-end
slice_bounds-columns-end c = size_bound _ c.requires.circuit_shaped.C-size

pub slice_bounds-lagrange_values_into-end-2 : goal.slice_bounds-lagrange_values_into-end-2
slice_bounds-lagrange_values_into-end-2 c = lent_length 1024 (size_bound _ c.requires.circuit_shaped.C-size)

pub lagrange_values_into-requires-2 : goal.lagrange_values_into-requires-2
lagrange_values_into-requires-2 c = record { lt_p = c.requires.modulus.0; out_value = lent_size _ c.requires.circuit_shaped.C-size }

pub slice_bounds-row_distances-end : goal.slice_bounds-row_distances-end
slice_bounds-row_distances-end c = size_bound _ c.requires.circuit_shaped.R-size

pub slice_bounds-distances_into-end : goal.slice_bounds-distances_into-end
slice_bounds-distances_into-end c = lent_length 1024 (size_bound _ c.requires.circuit_shaped.R-size)

pub distances_into-requires : goal.distances_into-requires
distances_into-requires c = record { modulus = c.requires.modulus; out_value = lent_size _ c.requires.circuit_shaped.R-size }

pub slice_bounds-column_distances-end : goal.slice_bounds-column_distances-end
slice_bounds-column_distances-end c = size_bound _ c.requires.circuit_shaped.C-size

pub slice_bounds-distances_into-end-2 : goal.slice_bounds-distances_into-end-2
slice_bounds-distances_into-end-2 c = lent_length 1024 (size_bound _ c.requires.circuit_shaped.C-size)

pub distances_into-requires-2 : goal.distances_into-requires-2
distances_into-requires-2 c = record { modulus = c.requires.modulus; out_value = lent_size _ c.requires.circuit_shaped.C-size }

pub slice_bounds-rows-end-2 : goal.slice_bounds-rows-end-2
slice_bounds-rows-end-2 c =
    back_holds 1024 (size_bound _ c.requires.circuit_shaped.R-size) c.lagrange_values_into.new.out c.lagrange_values_into.auto.out

pub slice_bounds-lagrange-end : goal.slice_bounds-lagrange-end
slice_bounds-lagrange-end c =
    back_length 1024 (size_bound _ c.requires.circuit_shaped.R-size) c.lagrange_values_into.new.out c.lagrange_values_into.auto.out

pub slice_bounds-columns-end-2 : goal.slice_bounds-columns-end-2
slice_bounds-columns-end-2 c =
    back_holds 1024 (size_bound _ c.requires.circuit_shaped.C-size) c.lagrange_values_into-2.new.out c.lagrange_values_into-2.auto.out

pub slice_bounds-lagrange-end-2 : goal.slice_bounds-lagrange-end-2
slice_bounds-lagrange-end-2 c =
    back_length 1024 (size_bound _ c.requires.circuit_shaped.C-size) c.lagrange_values_into-2.new.out c.lagrange_values_into-2.auto.out

pub slice_bounds-row_distances-end-2 : goal.slice_bounds-row_distances-end-2
slice_bounds-row_distances-end-2 c =
    back_holds 1024 (size_bound _ c.requires.circuit_shaped.R-size) c.distances_into.new.out c.distances_into.auto.out

pub slice_bounds-distances-end : goal.slice_bounds-distances-end
slice_bounds-distances-end c =
    back_length 1024 (size_bound _ c.requires.circuit_shaped.R-size) c.distances_into.new.out c.distances_into.auto.out

pub slice_bounds-column_distances-end-2 : goal.slice_bounds-column_distances-end-2
slice_bounds-column_distances-end-2 c =
    back_holds 1024 (size_bound _ c.requires.circuit_shaped.C-size) c.distances_into-2.new.out c.distances_into-2.auto.out

pub slice_bounds-distances-end-2 : goal.slice_bounds-distances-end-2
slice_bounds-distances-end-2 c =
    back_length 1024 (size_bound _ c.requires.circuit_shaped.C-size) c.distances_into-2.new.out c.distances_into-2.auto.out

pub joined_by_lists-requires : goal.joined_by_lists-requires
joined_by_lists-requires c =
    let shaped = c.requires.circuit_shaped in
    let rows = size_bound _ shaped.R-size in
    let columns = size_bound _ shaped.C-size in
    record {
      modulus = c.requires.modulus;
      three_within =
          three-within shaped c.requires.each_within (back_length 1024 rows c.lagrange_values_into.new.out c.lagrange_values_into.auto.out)
          (back_length 1024 columns c.lagrange_values_into-2.new.out c.lagrange_values_into-2.auto.out);
      three_within_2 =
          three-within shaped c.requires.each_within (back_length 1024 rows c.distances_into.new.out c.distances_into.auto.out)
          (back_length 1024 columns c.distances_into-2.new.out c.distances_into-2.auto.out);
      out_len = c.requires.out_len;
    }

pub returns : goal.returns
returns c q k G H =
    let a = c.args in
    let known = (G A).known in
    let rows = size_bound _ c.requires.circuit_shaped.R-size in
    let columns = size_bound _ c.requires.circuit_shaped.C-size in
    c.joined_by_lists.ensures q k a.circuit.now.r a.circuit.now.c a.alpha a.beta G H
    (record {
      by_row =
          lent-list (λ (n : ℕ). lagrange_values {q = q} n (of a.alpha)) rows c.lagrange_values_into.new.out c.lagrange_values_into.auto.out
          (c.lagrange_values_into.ensures q known);
      by_column =
          lent-list (λ (n : ℕ). lagrange_values {q = q} n (of a.beta)) columns c.lagrange_values_into-2.new.out
          c.lagrange_values_into-2.auto.out (c.lagrange_values_into-2.ensures q known);
    })
    (record {
      by_row =
          lent-list (λ (n : ℕ). distances {q = q} n (of a.alpha)) rows c.distances_into.new.out c.distances_into.auto.out
          (c.distances_into.ensures q known);
      by_column =
          lent-list (λ (n : ℕ). distances {q = q} n (of a.beta)) columns c.distances_into-2.new.out c.distances_into-2.auto.out
          (c.distances_into-2.ensures q known);
    })
