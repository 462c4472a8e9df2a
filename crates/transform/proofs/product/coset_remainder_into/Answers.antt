-- `transform::product::coset_remainder_into` meets its contract. Assumes nothing.
use mathlib.Core.Path.{◌≡◌, sym, ap, ◌∙◌, subst}
use mathlib.Core.List.{List, map}
use Prim.Native.Nat.{ℕ}
use native.Mathlib.Nat.{le_refl}
use lib.ListN.{length, take}
use Rattle.algebra.specs.Polynomial.{twist}
use Rattle.field.specs.Element.{of, words}
use Rattle.field.proofs.ElementLaws.{prime_ring}
use Rattle.domain.specs.Size.{is_size}
use Rattle.domain.specs.Polynomial.{Poly, values_on}
use Rattle.domain.proofs.SizeLaws.{size_bound}
use Rattle.poly.proofs.LentParts.{parts_order, returned, lent_length, back_holds, back_length, back_list}
use Rattle.transform.specs.Reading.{ValueTables}
use Rattle.transform.proofs.TableLaws.{values-lent}
use Rattle.transform.proofs.product.coset_remainder_into.Goals as goal

pub slice_bounds-value_powers-end : goal.slice_bounds-value_powers-end
slice_bounds-value_powers-end c = size_bound (length c.args.out.now) c.requires.out_value

pub slice_bounds-fill_tables-end : goal.slice_bounds-fill_tables-end
slice_bounds-fill_tables-end c = lent_length 1024 (size_bound (length c.args.out.now) c.requires.out_value)

pub slice_bounds-value_quotients-end : goal.slice_bounds-value_quotients-end
slice_bounds-value_quotients-end c = size_bound (length c.args.out.now) c.requires.out_value

pub slice_bounds-fill_tables-end-2 : goal.slice_bounds-fill_tables-end-2
slice_bounds-fill_tables-end-2 c = lent_length 1024 (size_bound (length c.args.out.now) c.requires.out_value)

pub fill_tables-requires : goal.fill_tables-requires
fill_tables-requires c =
    let part = lent_length 1024 (size_bound (length c.args.out.now) c.requires.out_value) in
    record {
      lt_p = c.requires.lt_p;
      quotients_len = sym part ∙ part;
    }

pub slice_bounds-value_powers-end-2 : goal.slice_bounds-value_powers-end-2
slice_bounds-value_powers-end-2 c =
    back_holds 1024 (size_bound (length c.args.out.now) c.requires.out_value) c.fill_tables.new.powers c.fill_tables.auto.powers

pub slice_bounds-coset_values_into-end : goal.slice_bounds-coset_values_into-end
slice_bounds-coset_values_into-end c =
    back_length 1024 (size_bound (length c.args.out.now) c.requires.out_value) c.fill_tables.new.powers c.fill_tables.auto.powers

pub slice_bounds-value_quotients-end-2 : goal.slice_bounds-value_quotients-end-2
slice_bounds-value_quotients-end-2 c =
    back_holds 1024 (size_bound (length c.args.out.now) c.requires.out_value) c.fill_tables.new.quotients c.fill_tables.auto.quotients

pub slice_bounds-coset_values_into-end-2 : goal.slice_bounds-coset_values_into-end-2
slice_bounds-coset_values_into-end-2 c =
    back_length 1024 (size_bound (length c.args.out.now) c.requires.out_value) c.fill_tables.new.quotients c.fill_tables.auto.quotients

pub slice_bounds-left-end : goal.slice_bounds-left-end
slice_bounds-left-end c = size_bound (length c.args.out.now) c.requires.out_value

pub slice_bounds-coset_values_into-end-3 : goal.slice_bounds-coset_values_into-end-3
slice_bounds-coset_values_into-end-3 c = lent_length 1024 (size_bound (length c.args.out.now) c.requires.out_value)

pub coset_values_into-requires : goal.coset_values_into-requires
coset_values_into-requires c =
    let call = c.fill_tables in
    let fits = size_bound (length c.args.out.now) c.requires.out_value in
    let part = lent_length 1024 fits in
    let powers-length = back_length 1024 fits call.new.powers call.auto.powers in
    let quotients-length = back_length 1024 fits call.new.quotients call.auto.quotients in
    record {
      lt_p = c.requires.lt_p;
      out_value = ap is_size (sym part) ∙ c.requires.out_value;
      f_len = c.requires.f_len.0 ∙ part;
      out_in_bounds = (parts_order part powers-length (le_refl _), parts_order part quotients-length (le_refl _));
    }

pub slice_bounds-value_powers-end-3 : goal.slice_bounds-value_powers-end-3
slice_bounds-value_powers-end-3 c =
    back_holds 1024 (size_bound (length c.args.out.now) c.requires.out_value) c.fill_tables.new.powers c.fill_tables.auto.powers

pub slice_bounds-coset_values_into-end-4 : goal.slice_bounds-coset_values_into-end-4
slice_bounds-coset_values_into-end-4 c =
    back_length 1024 (size_bound (length c.args.out.now) c.requires.out_value) c.fill_tables.new.powers c.fill_tables.auto.powers

pub slice_bounds-value_quotients-end-3 : goal.slice_bounds-value_quotients-end-3
slice_bounds-value_quotients-end-3 c =
    back_holds 1024 (size_bound (length c.args.out.now) c.requires.out_value) c.fill_tables.new.quotients c.fill_tables.auto.quotients

pub slice_bounds-coset_values_into-end-5 : goal.slice_bounds-coset_values_into-end-5
slice_bounds-coset_values_into-end-5 c =
    back_length 1024 (size_bound (length c.args.out.now) c.requires.out_value) c.fill_tables.new.quotients c.fill_tables.auto.quotients

pub slice_bounds-right-end : goal.slice_bounds-right-end
slice_bounds-right-end c = size_bound (length c.args.out.now) c.requires.out_value

pub slice_bounds-coset_values_into-end-6 : goal.slice_bounds-coset_values_into-end-6
slice_bounds-coset_values_into-end-6 c = lent_length 1024 (size_bound (length c.args.out.now) c.requires.out_value)

pub coset_values_into-requires-2 : goal.coset_values_into-requires-2
coset_values_into-requires-2 c =
    let call = c.fill_tables in
    let fits = size_bound (length c.args.out.now) c.requires.out_value in
    let part = lent_length 1024 fits in
    let powers-length = back_length 1024 fits call.new.powers call.auto.powers in
    let quotients-length = back_length 1024 fits call.new.quotients call.auto.quotients in
    record {
      lt_p = c.requires.lt_p;
      out_value = ap is_size (sym part) ∙ c.requires.out_value;
      f_len = c.requires.f_len.1 ∙ part;
      out_in_bounds = (parts_order part powers-length (le_refl _), parts_order part quotients-length (le_refl _));
    }

pub slice_bounds-left-end-2 : goal.slice_bounds-left-end-2
slice_bounds-left-end-2 c =
    back_holds 1024 (size_bound (length c.args.out.now) c.requires.out_value) c.coset_values_into.new.out c.coset_values_into.auto.out

pub slice_bounds-remainder_from-end : goal.slice_bounds-remainder_from-end
slice_bounds-remainder_from-end c =
    back_length 1024 (size_bound (length c.args.out.now) c.requires.out_value) c.coset_values_into.new.out c.coset_values_into.auto.out

pub slice_bounds-right-end-2 : goal.slice_bounds-right-end-2
slice_bounds-right-end-2 c =
    back_holds 1024 (size_bound (length c.args.out.now) c.requires.out_value) c.coset_values_into-2.new.out c.coset_values_into-2.auto.out

pub slice_bounds-remainder_from-end-2 : goal.slice_bounds-remainder_from-end-2
slice_bounds-remainder_from-end-2 c =
    back_length 1024 (size_bound (length c.args.out.now) c.requires.out_value) c.coset_values_into-2.new.out c.coset_values_into-2.auto.out

pub remainder_from-requires : goal.remainder_from-requires
remainder_from-requires c =
    let fits = size_bound (length c.args.out.now) c.requires.out_value in
    record {
      lt_p = c.requires.lt_p;
      out_value = c.requires.out_value;
      left_len = (
        sym (back_length 1024 fits c.coset_values_into.new.out c.coset_values_into.auto.out),
        sym (back_length 1024 fits c.coset_values_into-2.new.out c.coset_values_into-2.auto.out),
      );
      out_in_bounds = c.requires.out_in_bounds;
    }

pub returns : goal.returns
returns c q Q e root-word tables =
    let a = c.args in
    let m : ℕ = length a.out.now in
    let fits = size_bound m c.requires.out_value in
    let call = c.fill_tables in
    let value-powers : List ℕ = call.new.powers in
    let value-quotients : List ℕ = call.new.quotients in
    let part : m ≡ _ = lent_length 1024 fits in
    let twisted : List ℕ → Poly q = λ f. twist (prime_ring q) (of a.s) (map of f) in
    let here : ValueTables q _ (take m (returned 1024 m value-powers)) (take m (returned 1024 m value-quotients)) =
    subst (λ (k : ℕ). ValueTables q k (take m (returned 1024 m value-powers)) (take m (returned 1024 m value-quotients))) part
    (values-lent q 1024 fits value-powers value-quotients call.auto.powers call.auto.quotients
    a.root root-word
    (call.ensures q e)) in
    c.remainder_from.ensures q Q e tables (twisted a.f.now) (twisted a.g.now)
    (back_list 1024 fits c.coset_values_into.new.out c.coset_values_into.auto.out (values_on m (twisted a.f.now))
    (c.coset_values_into.ensures q Q e here ∙ ap (λ (k : ℕ). words (values_on k (twisted a.f.now))) (sym part)))
    (back_list 1024 fits c.coset_values_into-2.new.out c.coset_values_into-2.auto.out (values_on m (twisted a.g.now))
    (c.coset_values_into-2.ensures q Q e here ∙ ap (λ (k : ℕ). words (values_on k (twisted a.g.now))) (sym part)))
