-- `matrix_sumcheck::joined::product_quotient_into` meets its contract: b_M and the ratio by their values on K_M, and their product divided.
-- Assumes nothing.
use mathlib.Core.Path.{◌≡◌, sym, ap, ap₂, ◌∙◌}
use mathlib.Core.List.{List, map}
use Prim.Native.Nat.{ℕ, ◌+◌}
use native.Mathlib.Omega.{arith}
use lib.ListN.{length, take}
use Rattle.algebra.specs.Lists.{tabulate}
use Rattle.field.specs.Prime.{Prime}
use Rattle.field.specs.Element.{Elem, of, words}
use Rattle.domain.specs.Size.{is_size}
use Rattle.domain.specs.Polynomial.{Poly, ◌⊠◌, quotient, interpolate}
use Rattle.domain.proofs.SizeLaws.{size_is, size_fits}
use Rattle.circuit.specs.Given.{entry_words}
use Rattle.poly.proofs.LentParts.{returned, lent_length, back_holds, back_length, back_list}
use Rattle.matrix_sumcheck.specs.MatrixGiven.{product_of, terms, padded}
use Rattle.matrix_sumcheck.proofs.MatrixTerms.{ratio_by_terms}
use Rattle.matrix_sumcheck.proofs.MatrixQuotients.{denominator_made}
use Rattle.matrix_sumcheck.proofs.joined.product_quotient_into.Goals as goal

-- the quotient by the elements that two lists of n words stand for
divided : {q : Prime} (left right : List ℕ) (f g : List (Elem q)) {n : ℕ} → n ≡ length left → map of left ≡ f → map of right ≡ g
    → words (quotient (length left) (interpolate (length left) (map (of {q = q}) left) ⊠ interpolate (length left) (map of right)))
    ≡ words (quotient n (interpolate n f ⊠ interpolate n g))
divided {q} left right f g {n} long left_is right_is =
    ap (λ (m : ℕ). words (quotient m (interpolate m (map (of {q = q}) left) ⊠ interpolate m (map of right)))) (sym long)
    ∙ ap₂ (λ (f g : List (Elem q)). words (quotient n (interpolate n f ⊠ interpolate n g))) left_is right_is

pub slice_bounds-below-end : goal.slice_bounds-below-end
slice_bounds-below-end c = size_fits _ c.requires.out_len

pub slice_bounds-products_into-end : goal.slice_bounds-products_into-end
slice_bounds-products_into-end c = lent_length 1024 (size_fits _ c.requires.out_len)

pub products_into-requires : goal.products_into-requires
products_into-requires c = record {
  p_nonzero = omega (arith, c.requires.modulus.0);
  entries_within = c.requires.entries_within_2;
  out_len = sym (lent_length 1024 (size_fits _ c.requires.out_len)) ∙ c.requires.out_len;
}

pub slice_bounds-terms-end : goal.slice_bounds-terms-end
slice_bounds-terms-end c = size_fits _ c.requires.out_len

pub slice_bounds-terms_into-end : goal.slice_bounds-terms_into-end
slice_bounds-terms_into-end c = lent_length 1024 (size_fits _ c.requires.out_len)

pub terms_into-requires : goal.terms_into-requires
terms_into-requires c = record {
  p_nonzero = omega (arith, c.requires.modulus.0);
  entries_within = c.requires.entries_within;
  out_len = sym (lent_length 1024 (size_fits _ c.requires.out_len)) ∙ c.requires.out_len;
}

pub slice_bounds-below-end-2 : goal.slice_bounds-below-end-2
slice_bounds-below-end-2 c = back_holds 1024 (size_fits _ c.requires.out_len) c.products_into.new.out c.products_into.auto.out

pub slice_bounds-divide_product_into-end : goal.slice_bounds-divide_product_into-end
slice_bounds-divide_product_into-end c = back_length 1024 (size_fits _ c.requires.out_len) c.products_into.new.out c.products_into.auto.out

pub slice_bounds-terms-end-2 : goal.slice_bounds-terms-end-2
slice_bounds-terms-end-2 c = back_holds 1024 (size_fits _ c.requires.out_len) c.terms_into.new.out c.terms_into.auto.out

pub slice_bounds-divide_product_into-end-2 : goal.slice_bounds-divide_product_into-end-2
slice_bounds-divide_product_into-end-2 c = back_length 1024 (size_fits _ c.requires.out_len) c.terms_into.new.out c.terms_into.auto.out

pub slice_bounds-factor-end : goal.slice_bounds-factor-end
slice_bounds-factor-end c = size_fits _ c.requires.out_len

pub slice_bounds-divide_product_into-end-3 : goal.slice_bounds-divide_product_into-end-3
slice_bounds-divide_product_into-end-3 c = lent_length 1024 (size_fits _ c.requires.out_len)

pub slice_bounds-rest-end : goal.slice_bounds-rest-end
slice_bounds-rest-end c = size_fits _ c.requires.out_len

pub slice_bounds-divide_product_into-end-4 : goal.slice_bounds-divide_product_into-end-4
slice_bounds-divide_product_into-end-4 c = lent_length 1024 (size_fits _ c.requires.out_len)

pub divide_product_into-requires : goal.divide_product_into-requires
divide_product_into-requires c =
    let fits = size_fits _ c.requires.out_len in
    let long = back_length 1024 fits c.products_into.new.out c.products_into.auto.out in
    let made-length = back_length 1024 fits c.terms_into.new.out c.terms_into.auto.out in
    let lent = sym (lent_length 1024 fits) ∙ long in record {
      modulus = c.requires.modulus;
      left_value = ap is_size (sym long) ∙ size_is _ c.requires.out_len;
      right_len = (sym made-length ∙ long, lent);
      rest_len = (lent, long);
    }

pub returns : goal.returns
returns c q k M r m alpha beta G H L D =
    let a = c.args in
    let n : ℕ = length a.out.now + 1 in
    let size = c.requires.out_len in
    let fits = size_fits _ size in
    let below : List ℕ = c.products_into.new.out in
    let made : List ℕ = c.terms_into.new.out in
    let place : ℕ → Elem q = λ i. product_of a.distances.now.rows.now a.distances.now.columns.now (entry_words a.entries.now i) in
    let ts : List (Elem q) = terms r m (of alpha) (of beta) a.entries.now in
    let lent = sym (lent_length 1024 fits) in
    let left =
    back_list 1024 fits below c.products_into.auto.out (tabulate n place)
    (c.products_into.ensures q G.known.value ∙ ap (λ (j : ℕ). words (tabulate j place)) lent) in
    let right =
    back_list 1024 fits made c.terms_into.auto.out (padded n ts)
    (c.terms_into.ensures q G.known.value r m alpha beta L ∙ ap (λ (j : ℕ). words (padded j ts)) lent) in
    (c.divide_product_into.ensures q G.known).is-quotient
    ∙ divided (take n (returned 1024 n below)) (take n (returned 1024 n made)) (tabulate n place) (padded n ts)
    (back_length 1024 fits below c.products_into.auto.out) left right
    ∙ ap₂ (λ (f g : Poly q). words (quotient n (f ⊠ g))) (denominator_made G H c.requires.entries_within_2 D n size)
    (ratio_by_terms G H n size)
