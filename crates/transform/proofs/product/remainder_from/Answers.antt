-- `transform::product::remainder_from` meets its contract. Assumes nothing.
use mathlib.Core.Path.{◌≡◌, sym, ap, ap₂, ◌∙◌, subst}
use mathlib.Core.List.{List, map}
use Prim.Native.Nat.{ℕ}
use native.Mathlib.Omega.{arith}
use lib.ListN.{length, get_or, take}
use Rattle.algebra.specs.Lists.{tabulate}
use Rattle.field.specs.Element.{Elem, of, ◌⊗◌, words}
use Rattle.domain.specs.Size.{is_size}
use Rattle.domain.specs.Polynomial.{interpolate}
use Rattle.domain.proofs.SizeLaws.{size_bound}
use Rattle.poly.proofs.LentParts.{part_order, returned, lent_length, back_holds, back_length, back_list}
use Rattle.transform.specs.Reading.{CoefficientTables}
use Rattle.transform.proofs.CosetWords.{product-words}
use Rattle.transform.proofs.product.remainder_from.Goals as goal

pub slice_bounds-products-end : goal.slice_bounds-products-end
slice_bounds-products-end c = size_bound (length c.args.out.now) c.requires.out_value

pub slice_bounds-products_into-end : goal.slice_bounds-products_into-end
slice_bounds-products_into-end c = lent_length 1024 (size_bound (length c.args.out.now) c.requires.out_value)

pub products_into-requires : goal.products_into-requires
products_into-requires c =
    let part = lent_length 1024 (size_bound (length c.args.out.now) c.requires.out_value) in
    record {
      p_nonzero = omega (arith, c.requires.lt_p);
      left_len = (c.requires.left_len.0 ∙ part, c.requires.left_len.1 ∙ part);
    }

pub slice_bounds-products-end-2 : goal.slice_bounds-products-end-2
slice_bounds-products-end-2 c =
    back_holds 1024 (size_bound (length c.args.out.now) c.requires.out_value) c.products_into.new.out c.products_into.auto.out

pub slice_bounds-interpolate_with-end : goal.slice_bounds-interpolate_with-end
slice_bounds-interpolate_with-end c =
    back_length 1024 (size_bound (length c.args.out.now) c.requires.out_value) c.products_into.new.out c.products_into.auto.out

pub interpolate_with-requires : goal.interpolate_with-requires
interpolate_with-requires c =
    let fits = size_bound (length c.args.out.now) c.requires.out_value in
    let long = back_length 1024 fits c.products_into.new.out c.products_into.auto.out in
    record {
      lt_p = c.requires.lt_p;
      out_len = (long, ap is_size (sym long) ∙ c.requires.out_value);
      values_in_bounds = (part_order long c.requires.out_in_bounds.0, part_order long c.requires.out_in_bounds.1);
    }

pub returns : goal.returns
returns c q Q e tables f g of_left of_right =
    let a = c.args in
    let n : ℕ = length a.out.now in
    let fits = size_bound n c.requires.out_value in
    let made : List ℕ = c.products_into.new.out in
    let long = back_length 1024 fits made c.products_into.auto.out in
    let rule : ℕ → Elem q = λ i. of (get_or a.left.now i 0) ⊗ of (get_or a.right.now i 0) in
    let values : map of (take n (returned 1024 n made)) ≡ tabulate n rule =
    back_list 1024 fits made c.products_into.auto.out (tabulate n rule)
    (c.products_into.ensures q e ∙ ap (λ (k : ℕ). words (tabulate k rule)) (sym (lent_length 1024 fits))) in
    c.interpolate_with.ensures q Q e (subst (λ (k : ℕ). CoefficientTables q k a.powers.now a.quotients.now)
    long tables)
    ∙ ap₂ (λ (k : ℕ) (l : List (Elem q)). words (interpolate k l)) (sym long) values
    ∙ ap words (product-words Q n c.requires.out_value f g a.left.now a.right.now of_left of_right)
