-- `matrix_sumcheck::values::values_into` meets its contract: the lists of the rows and of the columns, then the three matrices.
-- Assumes nothing.
use mathlib.Core.Path.{sym, ap, ◌∙◌}
use Prim.Native.Nat.{ℕ}
use Rattle.field.specs.Element.{of}
use Rattle.domain.specs.Size.{is_size}
use Rattle.domain.proofs.SizeLaws.{size_bound}
use Rattle.protocol.specs.Three.{A}
use Rattle.poly.proofs.LentParts.{lent_length, back_holds, back_length}
use Rattle.matrix_sumcheck.specs.MatrixGiven.{lagrange_values}
use Rattle.matrix_sumcheck.proofs.GivenLaws.{three-within, lent-list}
use Rattle.matrix_sumcheck.proofs.values.values_into.Goals as goal

pub slice_bounds-rows-end : goal.slice_bounds-rows-end
slice_bounds-rows-end c = size_bound _ c.requires.circuit_shaped.R-size

pub slice_bounds-lagrange_values_into-end : goal.slice_bounds-lagrange_values_into-end
slice_bounds-lagrange_values_into-end c = lent_length 1024 (size_bound _ c.requires.circuit_shaped.R-size)

pub lagrange_values_into-requires : goal.lagrange_values_into-requires
lagrange_values_into-requires c =
    let rows = c.requires.circuit_shaped.R-size in
    record {
      lt_p = c.requires.lt_p;
      out_value = ap is_size (sym (lent_length 1024 (size_bound _ rows))) ∙ rows;
    }

pub slice_bounds-columns-end : goal.slice_bounds-columns-end
slice_bounds-columns-end c = size_bound _ c.requires.circuit_shaped.C-size

pub slice_bounds-lagrange_values_into-end-2 : goal.slice_bounds-lagrange_values_into-end-2
slice_bounds-lagrange_values_into-end-2 c = lent_length 1024 (size_bound _ c.requires.circuit_shaped.C-size)

pub lagrange_values_into-requires-2 : goal.lagrange_values_into-requires-2
lagrange_values_into-requires-2 c =
    let columns = c.requires.circuit_shaped.C-size in
    record {
      lt_p = c.requires.lt_p;
      out_value = ap is_size (sym (lent_length 1024 (size_bound _ columns))) ∙ columns;
    }

pub slice_bounds-rows-end-2 : goal.slice_bounds-rows-end-2
slice_bounds-rows-end-2 c =
    back_holds 1024 (size_bound _ c.requires.circuit_shaped.R-size) c.lagrange_values_into.new.out c.lagrange_values_into.auto.out

pub slice_bounds-lagrange-end : goal.slice_bounds-lagrange-end
slice_bounds-lagrange-end c =
    back_length 1024 (size_bound _ c.requires.circuit_shaped.R-size) c.lagrange_values_into.new.out c.lagrange_values_into.auto.out

pub slice_bounds-columns-end-2 : goal.slice_bounds-columns-end-2
slice_bounds-columns-end-2 c =
    back_holds 1024 (size_bound _ c.requires.circuit_shaped.C-size) c.lagrange_values_into-2.new.out c.lagrange_values_into-2.auto.out

pub slice_bounds-lagrange-end-2 : goal.slice_bounds-lagrange-end-2
slice_bounds-lagrange-end-2 c =
    back_length 1024 (size_bound _ c.requires.circuit_shaped.C-size) c.lagrange_values_into-2.new.out c.lagrange_values_into-2.auto.out

pub values_by_lists-requires : goal.values_by_lists-requires
values_by_lists-requires c =
    let shaped = c.requires.circuit_shaped in
    let rows = back_length 1024 (size_bound _ shaped.R-size) c.lagrange_values_into.new.out c.lagrange_values_into.auto.out in
    let columns = back_length 1024 (size_bound _ shaped.C-size) c.lagrange_values_into-2.new.out c.lagrange_values_into-2.auto.out in
    record {
      lt_p = c.requires.lt_p;
      three_within = three-within shaped c.requires.each_within rows columns;
      ga_len = c.requires.ga_len;
      gb_len = c.requires.gb_len;
      gc_len = c.requires.gc_len;
    }

pub returns : goal.returns
returns c q k G H =
    let a = c.args in
    let known = (G A).known in
    let shaped = c.requires.circuit_shaped in
    c.values_by_lists.ensures q k a.circuit.now.r a.circuit.now.c a.alpha a.beta G H
    (record {
      by_row =
          lent-list (λ (n : ℕ). lagrange_values {q = q} n (of a.alpha)) (size_bound _ shaped.R-size) c.lagrange_values_into.new.out
          c.lagrange_values_into.auto.out (c.lagrange_values_into.ensures q known);
      by_column =
          lent-list (λ (n : ℕ). lagrange_values {q = q} n (of a.beta)) (size_bound _ shaped.C-size) c.lagrange_values_into-2.new.out
          c.lagrange_values_into-2.auto.out (c.lagrange_values_into-2.ensures q known);
    })
