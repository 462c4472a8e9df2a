-- `prover::line::column_weights_into` meets its contract. Assumes nothing.
use mathlib.Core.Path.{refl, sym, ap, ◌∙◌}
use mathlib.Core.List.{List}
use Prim.Native.Nat.{ℕ, ◌≤◌}
use native.Mathlib.Omega.{arith}
use Rattle.algebra.specs.Lists.{tabulate}
use Rattle.field.specs.Element.{Elem, of, words}
use Rattle.domain.specs.Size.{is_size}
use Rattle.domain.specs.Domain.{element, lagrange}
use Rattle.domain.proofs.SizeLaws.{size_bound}
use Rattle.poly.proofs.LentParts.{part_length, filled_within, filled_length, of_filled}
use Rattle.prover.proofs.RowLaws.{row_values}
use Rattle.prover.proofs.LineLaws.{each_within}
use Rattle.prover.proofs.line.column_weights_into.Goals as goal
use Rattle.prover.proofs.line.column_weights_into.Goals.{After-lagrange_values_into, Start}

bound : (c : Start) → c.args.circuit.now.r ≤ 1024
bound c = size_bound c.args.circuit.now.r c.requires.r_value

abbrev left : After-lagrange_values_into → List ℕ
left c = c.lagrange_values_into.new.out

pub slice_bounds-rows-end : goal.slice_bounds-rows-end
slice_bounds-rows-end c = bound (goal.at.slice_bounds-rows-end c).Start

pub slice_bounds-lagrange_values_into-end : goal.slice_bounds-lagrange_values_into-end
slice_bounds-lagrange_values_into-end c = part_length _ _ (bound (goal.at.slice_bounds-lagrange_values_into-end c).Start)

pub lagrange_values_into-requires : goal.lagrange_values_into-requires
lagrange_values_into-requires c =
    let s = (goal.at.lagrange_values_into-requires c).Start in
    record {
      lt_p = s.requires.lt_p;
      out_value = ap is_size (sym (part_length _ _ (bound s))) ∙ s.requires.r_value;
    }

pub slice_bounds-rows-end-2 : goal.slice_bounds-rows-end-2
slice_bounds-rows-end-2 c =
    let r = (goal.at.slice_bounds-rows-end-2 c).After-lagrange_values_into in
    filled_within _ _ (bound (goal.at.After-lagrange_values_into r).Start) (left r) r.lagrange_values_into.auto.out

pub slice_bounds-weights_from-end : goal.slice_bounds-weights_from-end
slice_bounds-weights_from-end c =
    let r = (goal.at.slice_bounds-weights_from-end c).After-lagrange_values_into in
    filled_length _ _ (bound (goal.at.After-lagrange_values_into r).Start) (left r) r.lagrange_values_into.auto.out

pub weights_from-requires : goal.weights_from-requires
weights_from-requires c =
    let r = (goal.at.weights_from-requires c).After-lagrange_values_into in
    let s = (goal.at.After-lagrange_values_into r).Start in
    record {
      p_nonzero = omega arith;
      each_within = each_within (filled_length _ _ (bound s) (left r) r.lagrange_values_into.auto.out) refl s.requires.each_within;
    }

pub returns : goal.returns
returns c q known k eR matrices =
    let r = (goal.at.returns c).After-lagrange_values_into in
    let s = (goal.at.After-lagrange_values_into r).Start in
    let a = s.args in
    let α : Elem q = of a.alpha in
    let long = filled_length _ _ (bound s) (left r) r.lagrange_values_into.auto.out in
    c.weights_from.ensures q known.value k (eR ∙ long) matrices α
    (of_filled _ _ (bound s) (left r) r.lagrange_values_into.auto.out (row_values a.circuit.now.r α)
    (r.lagrange_values_into.ensures q known
    ∙ ap (λ (n : ℕ). words (tabulate n (λ i. lagrange n (element n i) α))) (sym (part_length _ _ (bound s))))
    ∙ ap (λ (n : ℕ). row_values n α) long)
