-- `transform::product::coset_values_into` meets its contract. Assumes nothing.
use mathlib.Core.Path.{sym, ap, ap₂, ◌∙◌, subst}
use mathlib.Core.List.{map}
use Prim.Native.Nat.{ℕ}
use lib.ListN.{length}
use Rattle.algebra.specs.Polynomial.{twist}
use Rattle.field.specs.Element.{of, words}
use Rattle.field.proofs.ElementLaws.{prime_ring}
use Rattle.domain.specs.Size.{is_size}
use Rattle.domain.specs.Polynomial.{Poly, values_on}
use Rattle.domain.proofs.SizeLaws.{size_bound}
use Rattle.poly.proofs.LentParts.{part_order, lent_length, back_holds, back_length, back_list}
use Rattle.transform.specs.Reading.{ValueTables}
use Rattle.transform.proofs.product.coset_values_into.Goals as goal

pub slice_bounds-twisted-end : goal.slice_bounds-twisted-end
slice_bounds-twisted-end c = size_bound (length c.args.out.now) c.requires.out_value

pub slice_bounds-twist_into-end : goal.slice_bounds-twist_into-end
slice_bounds-twist_into-end c = lent_length 1024 (size_bound (length c.args.out.now) c.requires.out_value)

pub twist_into-requires : goal.twist_into-requires
twist_into-requires c =
    record {
      lt_p = c.requires.lt_p;
      f_len = c.requires.f_len ∙ lent_length 1024 (size_bound (length c.args.out.now) c.requires.out_value);
    }

pub slice_bounds-twisted-end-2 : goal.slice_bounds-twisted-end-2
slice_bounds-twisted-end-2 c =
    back_holds 1024 (size_bound (length c.args.out.now) c.requires.out_value) c.twist_into.new.out c.twist_into.auto.out

pub slice_bounds-evaluate_with-end : goal.slice_bounds-evaluate_with-end
slice_bounds-evaluate_with-end c =
    back_length 1024 (size_bound (length c.args.out.now) c.requires.out_value) c.twist_into.new.out c.twist_into.auto.out

pub evaluate_with-requires : goal.evaluate_with-requires
evaluate_with-requires c =
    let fits = size_bound (length c.args.out.now) c.requires.out_value in
    let long = back_length 1024 fits c.twist_into.new.out c.twist_into.auto.out in
    record {
      lt_p = c.requires.lt_p;
      out_len = (long, ap is_size (sym long) ∙ c.requires.out_value);
      f_in_bounds = (part_order long c.requires.out_in_bounds.0, part_order long c.requires.out_in_bounds.1);
    }

pub returns : goal.returns
returns c q Q e tables =
    let a = c.args in
    let fits = size_bound (length a.out.now) c.requires.out_value in
    let made = c.twist_into.new.out in
    let long = back_length 1024 fits made c.twist_into.auto.out in
    let f : Poly q = twist (prime_ring q) (of a.s) (map of a.f.now) in
    c.evaluate_with.ensures q Q e (subst (λ (k : ℕ). ValueTables q k a.powers.now a.quotients.now)
    long tables)
    ∙ ap₂ (λ (k : ℕ) (f : Poly q). words (values_on k f)) (sym long)
    (back_list 1024 fits made c.twist_into.auto.out f (c.twist_into.ensures q e))
