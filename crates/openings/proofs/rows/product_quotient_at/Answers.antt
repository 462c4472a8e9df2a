-- `openings::rows::product_quotient_at` meets its contract. Assumes nothing.
use mathlib.Core.Path.{sym, ap, ap₂, ◌∙◌}
use mathlib.Core.List.{List, map}
use Prim.Native.Nat.{ℕ, ◌≤◌}
use native.Mathlib.Omega.{arith}
use Rattle.field.specs.Element.{Elem, of, ◌⊗◌, ◌⊖◌}
use Rattle.field.proofs.Words.{of-result}
use Rattle.domain.specs.Polynomial.{eval, interpolate}
use Rattle.domain.proofs.SizeLaws.{size_bound}
use Rattle.domain.proofs.Qualification.{known-qualifies}
use Rattle.poly.proofs.LentParts.{lent_length}
use Rattle.openings.proofs.OpeningLaws.{MadeIn, made_holds, made_length, made_list, made_by_length}
use Rattle.openings.proofs.WordValues.{products_of}
use Rattle.openings.proofs.rows.product_quotient_at.Goals as goal
use Rattle.openings.proofs.rows.product_quotient_at.Goals.{After-products_into, Start}

room : (s : Start) → s.args.n ≤ 1024
room s = size_bound s.args.n s.requires.n_value.0

-- the products as they were made
made : (c : After-products_into) → MadeIn 1024 c.args.n c.products_into.new.out
made c = record { fits = room (goal.at.After-products_into c).Start; kept = c.products_into.auto.out }

pub slice_bounds-products-end : goal.slice_bounds-products-end
slice_bounds-products-end c = room (goal.at.slice_bounds-products-end c).Start

pub slice_bounds-products_into-end : goal.slice_bounds-products_into-end
slice_bounds-products_into-end c = lent_length 1024 (room (goal.at.slice_bounds-products_into-end c).Start)

pub products_into-requires : goal.products_into-requires
products_into-requires c =
    let s = (goal.at.products_into-requires c).Start in
    let long = lent_length 1024 (room s) in
    record {
      p_nonzero = omega arith;
      left_len = (s.requires.lagrange_len.1 ∙ long, s.requires.lagrange_len.2 ∙ long);
    }

pub slice_bounds-products-end-2 : goal.slice_bounds-products-end-2
slice_bounds-products-end-2 c = made_holds (made (goal.at.slice_bounds-products-end-2 c).After-products_into)

pub slice_bounds-interpolated_at-end : goal.slice_bounds-interpolated_at-end
slice_bounds-interpolated_at-end c = made_length (made (goal.at.slice_bounds-interpolated_at-end c).After-products_into)

pub interpolated_at-both-requires : goal.interpolated_at-both-requires
interpolated_at-both-requires c =
    let m = (goal.at.interpolated_at-both-requires c).After-products_into in
    record {
      p_nonzero = omega arith;
      values_len = sym (made_length (made m)) ∙ sym m.requires.lagrange_len.0;
    }

pub returns : goal.returns
returns c q K lagrange h e =
    let m = (goal.at.returns c).After-products_into in
    let a = m.args in
    let v = K.value in
    let Q = known-qualifies K in
    let y : Elem q = of a.y in
    let value : List (Elem q) → Elem q = λ f. eval (interpolate a.n f) y in
    let left = of-result (value (map of a.left.now)) (c.interpolated_at-first.ensures q Q v a.n m.requires.n_value.0 y lagrange) in
    let right = of-result (value (map of a.right.now)) (c.interpolated_at-second.ensures q Q v a.n m.requires.n_value.0 y lagrange) in
    let products : ℕ → List (Elem q) = λ n. products_of n a.left.now a.right.now in
    let both = of-result (value _) (c.interpolated_at-both.ensures q Q v a.n m.requires.n_value.0 y lagrange)
    ∙ ap value (made_list (made m) (products a.n) (made_by_length (made m) products (m.products_into.ensures q v))) in
    let product = of-result (of {q = q} _ ⊗ of _) (c.multiply.ensures q v) ∙ ap₂ ◌⊗◌ left right in
    c.over_vanishing.ensures q K h (of-result (of {q = q} _ ⊖ of _) (c.subtract.ensures q v) ∙ ap₂ ◌⊖◌ product both ∙ e)
