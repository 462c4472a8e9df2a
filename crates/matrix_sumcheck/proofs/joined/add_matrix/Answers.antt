-- `matrix_sumcheck::joined::add_matrix` meets its contract: minus the multiple of the quotient, which is minus h_M. Assumes nothing.
use mathlib.Core.Path.{◌≡◌, sym, ap, ap₂, ◌∙◌}
use mathlib.Core.List.{map}
use Prim.Native.Nat.{ℕ, ◌+◌, ◌-◌}
use native.Mathlib.Omega.{arith}
use lib.ListN.{length, take}
use Rattle.field.specs.Element.{Elem, of, 𝟘, ◌⊗◌, ◌⊖◌, words}
use Rattle.field.specs.Power.{◌⊘◌}
use Rattle.field.proofs.Words.{of-result}
use Rattle.domain.specs.Size.{size_for}
use Rattle.domain.specs.Polynomial.{Poly, ◌⊞◌, ◌·◌, ◌⊠◌, quotient}
use Rattle.domain.proofs.SizeLaws.{size_bound, sized_positive, sized-fits, sized-next}
use Rattle.protocol.specs.Messages.{denominator, ratio}
use Rattle.poly.proofs.LentParts.{array, lent_length, back_holds, back_length, back_list}
use Rattle.matrix_sumcheck.specs.MatrixGiven.{size_of}
use Rattle.matrix_sumcheck.proofs.MatrixQuotients.{minus_multiple, quotient_made}
use Rattle.matrix_sumcheck.proofs.joined.add_matrix.Goals as goal

-- |K_M| - 1 words, as they are lent, give |K_M|
lent_size : {size : ℕ} (m : ℕ) → size ≡ size_for m → length (take (size - 1) (array 1024)) + 1 ≡ size_for m
lent_size m e = ap (λ (n : ℕ). n + 1) (sym (lent_length 1024 (sized-fits m e))) ∙ sized-next m e

pub overflow_cast-out : goal.overflow_cast-out
overflow_cast-out c = omega (arith, size_bound (length c.args.out.now + 1) c.requires.entries_in_bounds.1)

pub overflow_sub-n : goal.overflow_sub-n
overflow_sub-n c = sized_positive _ c.size_of-size.ensures

pub slice_bounds-quotient-end : goal.slice_bounds-quotient-end
slice_bounds-quotient-end c = sized-fits _ c.size_of-size.ensures

pub slice_bounds-product_quotient_into-end : goal.slice_bounds-product_quotient_into-end
slice_bounds-product_quotient_into-end c = lent_length 1024 (sized-fits _ c.size_of-size.ensures)

pub product_quotient_into-requires : goal.product_quotient_into-requires
product_quotient_into-requires c = record {
  modulus = c.requires.modulus;
  entries_within = c.requires.entries_within;
  entries_within_2 = c.requires.entries_within_2;
  out_len = lent_size _ c.size_of-size.ensures;
}

pub slice_bounds-quotient-end-2 : goal.slice_bounds-quotient-end-2
slice_bounds-quotient-end-2 c =
    back_holds 1024 (sized-fits _ c.size_of-size.ensures) c.product_quotient_into.new.out c.product_quotient_into.auto.out

pub slice_bounds-add_scaled-end : goal.slice_bounds-add_scaled-end
slice_bounds-add_scaled-end c =
    back_length 1024 (sized-fits _ c.size_of-size.ensures) c.product_quotient_into.new.out c.product_quotient_into.auto.out

pub returns : goal.returns
returns c q k M r n alpha beta G H L D =
    let a = c.args in
    let e = G.known.value in
    let sized = c.size_of-size.ensures in
    let α : Elem q = of alpha in
    let β : Elem q = of beta in
    let z : ℕ = length a.out.now + 1 in
    let m : ℕ = length (take (c.size_of-size.result - 1) (array 1024)) + 1 in
    let f : Poly q = quotient m (denominator k α β M ⊠ ratio k α β M) in
    let x : Elem q = of a.delta ⊗ (of (size_of a.entries.now) ⊘ of z) in
    let shared : of c.multiply-share.result ≡ of {q = q} (size_of a.entries.now) ⊘ of z =
    of-result _ (c.multiply-share.ensures q e)
    ∙ ap₂ (λ (s t : Elem q). s ⊗ t) (ap of sized)
    (of-result _ (c.size_inverse-inverse.ensures q G.qualifies e)) in
    let factor : of c.subtract.result ≡ 𝟘 ⊖ x =
    of-result _ (c.subtract.ensures q e)
    ∙ ap (λ (s : Elem q). 𝟘 ⊖ s) (of-result _ (c.multiply-factor.ensures q e) ∙ ap (λ (s : Elem q). of a.delta ⊗ s) shared) in
    let list =
    back_list 1024 (sized-fits _ sized) c.product_quotient_into.new.out c.product_quotient_into.auto.out f
    (c.product_quotient_into.ensures q k M r n alpha beta G H L D) in
    c.add_scaled.ensures q e
    ∙ ap words
    (ap (◌⊞◌ (map of a.out.now))
    (ap₂ ◌·◌ factor list ∙ minus_multiple x f ∙ ap (λ (g : Poly q). x · g) (quotient_made G H m (lent_size _ sized))))
