-- `transform::product::divide_with` meets its contract. Assumes nothing.
use mathlib.Core.Path.{◌≡◌, sym, ap, ap₂, ◌∙◌, subst}
use mathlib.Core.Bool.{true}
use mathlib.Core.List.{List, map}
use Prim.Native.Nat.{ℕ, ◌+◌, ◌≤◌, ◌<◌}
use native.Mathlib.Omega.{arith}
use lib.ListN.{length, take, length-map}
use Rattle.algebra.specs.Polynomial.{twist}
use Rattle.algebra.proofs.PolynomialLaws.{length-product}
use Rattle.field.specs.Prime.{Prime}
use Rattle.field.specs.Element.{of, words}
use Rattle.field.proofs.ElementLaws.{prime_ring}
use Rattle.field.proofs.Words.{of_results}
use Rattle.domain.specs.Size.{is_size}
use Rattle.domain.specs.Domain.{root}
use Rattle.domain.specs.Polynomial.{Poly, ◌⊠◌, remainder, values_on, interpolate}
use Rattle.domain.proofs.SizeLaws.{size_positive, size_bound}
use Rattle.domain.proofs.Interpolation.{length-interpolate, values-interpolate}
use Rattle.domain.proofs.Qualification.{known-qualifies}
use Rattle.poly.proofs.LentParts.{part_order, returned, lent_length, back_holds, back_length, back_is, back_list}
use Rattle.transform.specs.Reading.{CoefficientTables}
use Rattle.transform.proofs.CosetWords.{known_shift, shift_outside, shift_not-zero}
use Rattle.transform.proofs.product.divide_with.Goals as goal

fewer : {k m : ℕ} → k + 1 ≡ m → k ≤ m
fewer e = omega arith

product-length : {q : Prime} (f g : Poly q) (k m : ℕ) → length f ≡ m → length g ≡ m → 0 < m → k + 1 ≡ m → length (f ⊠ g) ≡ k + m
product-length {q} f g k m f_length g-length positive e = omega (arith, length-product (prime_ring q) f g (omega arith) (omega arith))

pub slice_bounds-other-end : goal.slice_bounds-other-end
slice_bounds-other-end c = size_bound (length c.args.left.now) c.requires.left_value

pub slice_bounds-interpolate_with-end : goal.slice_bounds-interpolate_with-end
slice_bounds-interpolate_with-end c = lent_length 1024 (size_bound (length c.args.left.now) c.requires.left_value)

pub interpolate_with-requires-2 : goal.interpolate_with-requires-2
interpolate_with-requires-2 c =
    let right : length c.args.right.now ≡ length c.args.left.now = c.requires.right_len.0 in record {
      lt_p = c.requires.modulus.0;
      out_len = (
        sym (lent_length 1024 (size_bound (length c.args.left.now) c.requires.left_value)) ∙ sym right,
        ap is_size right ∙ c.requires.left_value,
      );
      values_in_bounds = (part_order (sym right) c.requires.left_in_bounds.0, part_order (sym right) c.requires.left_in_bounds.1);
    }

pub remainder_from-requires : goal.remainder_from-requires
remainder_from-requires c =
    let rest : length c.args.rest.now ≡ length c.args.left.now = c.requires.rest_len.0 in record {
      lt_p = c.requires.modulus.0;
      out_value = ap is_size rest ∙ c.requires.left_value;
      left_len = (sym rest, c.requires.right_len.0 ∙ sym rest);
      out_in_bounds = (part_order (sym rest) c.requires.left_in_bounds.0, part_order (sym rest) c.requires.left_in_bounds.1);
    }

pub slice_bounds-other-end-2 : goal.slice_bounds-other-end-2
slice_bounds-other-end-2 c =
    back_holds 1024 (size_bound (length c.args.left.now) c.requires.left_value) c.interpolate_with-2.new.out c.interpolate_with-2.auto.out

pub slice_bounds-coset_remainder_into-end : goal.slice_bounds-coset_remainder_into-end
slice_bounds-coset_remainder_into-end c =
    back_length 1024 (size_bound (length c.args.left.now) c.requires.left_value) c.interpolate_with-2.new.out c.interpolate_with-2.auto.out

pub slice_bounds-turned-end : goal.slice_bounds-turned-end
slice_bounds-turned-end c = size_bound (length c.args.left.now) c.requires.left_value

pub slice_bounds-coset_remainder_into-end-2 : goal.slice_bounds-coset_remainder_into-end-2
slice_bounds-coset_remainder_into-end-2 c = lent_length 1024 (size_bound (length c.args.left.now) c.requires.left_value)

pub coset_remainder_into-requires : goal.coset_remainder_into-requires
coset_remainder_into-requires c =
    let fits = size_bound (length c.args.left.now) c.requires.left_value in
    let part = lent_length 1024 fits in
    record {
      lt_p = c.requires.modulus.0;
      out_value = ap is_size (sym part) ∙ c.requires.left_value;
      f_len = (
        c.interpolate_with.auto.out ∙ c.requires.right_len.1 ∙ part,
        sym (back_length 1024 fits c.interpolate_with-2.new.out c.interpolate_with-2.auto.out) ∙ part,
      );
      out_in_bounds = (part_order part c.requires.left_in_bounds.0, part_order part c.requires.left_in_bounds.1);
    }

pub overflow_cast-n : goal.overflow_cast-n
overflow_cast-n c = omega (arith, size_bound (length c.args.left.now) c.requires.left_value)

pub slice_bounds-turned-end-2 : goal.slice_bounds-turned-end-2
slice_bounds-turned-end-2 c =
    back_holds 1024 (size_bound (length c.args.left.now) c.requires.left_value) c.coset_remainder_into.new.out c.coset_remainder_into.auto.out

pub slice_bounds-quotient_from-end : goal.slice_bounds-quotient_from-end
slice_bounds-quotient_from-end c =
    back_length 1024 (size_bound (length c.args.left.now) c.requires.left_value) c.coset_remainder_into.new.out c.coset_remainder_into.auto.out

pub quotient_from-requires : goal.quotient_from-requires
quotient_from-requires c =
    let m : ℕ = length c.args.out.now in
    let fits = size_bound (length c.args.left.now) c.requires.left_value in
    let less : m ≤ length c.args.left.now = fewer c.requires.rest_len.1 in record {
      lt_p = c.requires.modulus.0;
      n_value = c.requires.left_value;
      outside_domain = (shift_outside c.requires.modulus.1 _ c.requires.left_value, shift_not-zero c.requires.modulus.1);
      out_in_bounds = (
        subst (λ (k : ℕ). m ≤ k) (sym (c.remainder_from.auto.out ∙ c.requires.rest_len.0)) less,
        subst (λ (k : ℕ). m ≤ k) (back_length 1024 fits c.coset_remainder_into.new.out c.coset_remainder_into.auto.out) less,
      );
    }

pub returns : goal.returns
returns c q known root-word tables =
    let a = c.args in
    let m : ℕ = length a.left.now in
    let size : is_size m ≡ true = c.requires.left_value in
    let right-length : length a.right.now ≡ m = c.requires.right_len.0 in
    let rest-length : length a.rest.now ≡ m = c.requires.rest_len.0 in
    let out-length : length a.out.now + 1 ≡ m = c.requires.rest_len.1 in
    let fits = size_bound m size in
    let other : List ℕ = c.interpolate_with-2.new.out in
    let turned : List ℕ = c.coset_remainder_into.new.out in
    let Q = known-qualifies known in
    let e = known.value in
    let at : (k : ℕ) → m ≡ k → CoefficientTables q k a.powers.now a.quotients.now =
    λ k same. subst (λ (k : ℕ). CoefficientTables q k a.powers.now a.quotients.now) same tables in
    let part : m ≡ _ = lent_length 1024 fits in
    let f : Poly q = interpolate m (map of a.left.now) in
    let g : Poly q = interpolate m (map of a.right.now) in
    let factor : List ℕ = c.interpolate_with.new.out in
    let is_factor : factor ≡ words f = c.interpolate_with.ensures q Q e tables in
    let is-other : map of (take m (returned 1024 m other)) ≡ g =
    back_list 1024 fits other c.interpolate_with-2.auto.out g
    (c.interpolate_with-2.ensures q Q e (at _ (sym right-length))
    ∙ ap (λ (k : ℕ). words {q = q} (interpolate k (map of a.right.now))) right-length) in
    let is-rest : _ ≡ words (remainder m (f ⊠ g)) =
    c.remainder_from.ensures q Q e (at _ (sym rest-length)) f g
    (sym (ap (λ (k : ℕ). values_on k f) rest-length ∙ values-interpolate Q m size (map of a.left.now)
    (length-map a.left.now (of {q = q}))))
    (sym (ap (λ (k : ℕ). values_on k g) rest-length
    ∙ values-interpolate Q m size (map of a.right.now) (length-map a.right.now (of {q = q}) ∙ right-length)))
    ∙ ap (λ (k : ℕ). words (remainder k (f ⊠ g))) rest-length in
    let twisted : Poly q → Poly q = twist (prime_ring q) (of 31) in
    let is_turned : take m (returned 1024 m turned) ≡ words (remainder m (twisted f ⊠ twisted g)) =
    back_is 1024 fits turned c.coset_remainder_into.auto.out
    ∙ c.coset_remainder_into.ensures q Q e (root-word ∙ ap (λ (k : ℕ). (root {q = q} k).word) part) (at _ part)
    ∙ ap (λ (k : ℕ). words {q = q} (remainder k (twisted (map of factor) ⊠ twisted (map of (take m (returned 1024 m other))))))
    (sym part)
    ∙ ap₂ (λ (x y : Poly q). words (remainder m (twisted x ⊠ twisted y))) (of_results f is_factor) is-other in
    let long : length (f ⊠ g) ≡ length a.out.now + m =
    product-length f g (length a.out.now) m (length-interpolate m (map of a.left.now))
    (length-interpolate m (map of a.right.now))
    (size_positive m size) out-length in
    record {
      is_factor = is_factor;
      is-rest = is-rest;
      is-quotient =
          c.quotient_from.ensures q Q e (known_shift known m size) f g long (fewer out-length) is-rest is_turned;
    }
