-- `openings::line::rest_into` meets its contract. Assumes nothing.
use mathlib.Core.Path.{sym, ap, ap₂, ◌∙◌}
use mathlib.Core.List.{List, map}
use Prim.Native.Nat.{ℕ}
use native.Mathlib.Omega.{arith}
use native.Mathlib.Nat.{le_refl}
use lib.ListN.{length}
use Rattle.algebra.proofs.PolynomialLaws.{scale_one}
use Rattle.field.specs.Element.{Elem, of, words}
use Rattle.field.proofs.ElementLaws.{prime_ring}
use Rattle.field.proofs.Words.{of_results}
use Rattle.domain.specs.Size.{is_size}
use Rattle.domain.specs.Domain.{root}
use Rattle.domain.specs.Polynomial.{Poly, ◌⊞◌, remainder, interpolate}
use Rattle.domain.proofs.SizeLaws.{size_positive, size_bound}
use Rattle.domain.proofs.Qualification.{known-qualifies}
use Rattle.poly.proofs.LentParts.{lent_length, parts_order}
use Rattle.openings.proofs.OpeningLaws.{made_in, made_holds, made_length, made_list, made_by_length}
use Rattle.openings.proofs.WordValues.{products_of}
use Rattle.openings.proofs.line.rest_into.Goals as goal

pub slice_bounds-products-end : goal.slice_bounds-products-end
slice_bounds-products-end c = size_bound _ c.requires.out_value

pub slice_bounds-products_into-end : goal.slice_bounds-products_into-end
slice_bounds-products_into-end c = lent_length 1024 (size_bound _ c.requires.out_value)

pub products_into-requires : goal.products_into-requires
products_into-requires c =
    let long = lent_length 1024 (size_bound _ c.requires.out_value) in
    record {
      p_nonzero = omega arith;
      left_len = (c.requires.weights_len.0 ∙ long, c.requires.weights_len.1 ∙ long);
    }

pub overflow_cast-n : goal.overflow_cast-n
overflow_cast-n c = omega (arith, size_bound _ c.requires.out_value)

pub slice_bounds-products-end-2 : goal.slice_bounds-products-end-2
slice_bounds-products-end-2 c = made_holds (made_in c.products_into.new.out (size_bound _ c.requires.out_value) c.products_into.auto.out)

pub slice_bounds-interpolate_into-end : goal.slice_bounds-interpolate_into-end
slice_bounds-interpolate_into-end c =
    made_length (made_in c.products_into.new.out (size_bound _ c.requires.out_value) c.products_into.auto.out)

pub slice_bounds-product-end : goal.slice_bounds-product-end
slice_bounds-product-end c = size_bound _ c.requires.out_value

pub slice_bounds-interpolate_into-end-2 : goal.slice_bounds-interpolate_into-end-2
slice_bounds-interpolate_into-end-2 c = lent_length 1024 (size_bound _ c.requires.out_value)

pub interpolate_into-requires : goal.interpolate_into-requires
interpolate_into-requires c =
    let long = made_length (made_in c.products_into.new.out (size_bound _ c.requires.out_value) c.products_into.auto.out) in
    record {
      lt_p = c.requires.lt_p;
      out_len = (sym (lent_length 1024 (size_bound _ c.requires.out_value)) ∙ long, ap is_size (sym long) ∙ c.requires.out_value);
    }

pub remainder_into-requires : goal.remainder_into-requires
remainder_into-requires c =
    record {
      p_nonzero = omega arith;
      out_nonzero = size_positive _ c.requires.out_value;
    }

pub slice_bounds-product-end-2 : goal.slice_bounds-product-end-2
slice_bounds-product-end-2 c =
    made_holds (made_in c.interpolate_into.new.out (size_bound _ c.requires.out_value) c.interpolate_into.auto.out)

pub slice_bounds-add_scaled-end : goal.slice_bounds-add_scaled-end
slice_bounds-add_scaled-end c =
    made_length (made_in c.interpolate_into.new.out (size_bound _ c.requires.out_value) c.interpolate_into.auto.out)

pub add_scaled-requires : goal.add_scaled-requires
add_scaled-requires c =
    record {
      p_nonzero = omega (arith, c.requires.lt_p);
      g_in_bounds =
          parts_order (made_length (made_in c.interpolate_into.new.out (size_bound _ c.requires.out_value) c.interpolate_into.auto.out))
          (sym c.remainder_into.auto.out) (le_refl _);
    }

pub returns : goal.returns
returns c q K =
    let products_made = made_in c.products_into.new.out (size_bound _ c.requires.out_value) c.products_into.auto.out in
    let a = c.args in
    let n : ℕ = length a.out.now in
    let v = K.value in
    let products : ℕ → List (Elem q) = λ n. products_of n a.weights.now a.z.now in
    let long = made_length products_made in
    let listed = made_list products_made (products n) (made_by_length products_made products (c.products_into.ensures q v)) in
    let product =
    made_list (made_in c.interpolate_into.new.out (size_bound _ c.requires.out_value) c.interpolate_into.auto.out)
    (interpolate n (products n))
    (c.interpolate_into.ensures q (known-qualifies K) v
    (c.root_of.ensures q K ∙ ap (λ (n : ℕ). (root {q = q} n).word) long)
    ∙ ap₂ (λ (n : ℕ) (l : List (Elem q)). words (interpolate n l)) (sym long) listed) in
    c.add_scaled.ensures q v
    ∙ ap₂ (λ (f g : Poly q). words (f ⊞ g)) (of_results (remainder n (map of a.m.now)) (c.remainder_into.ensures q v))
    (scale_one (prime_ring q) _ ∙ product)
