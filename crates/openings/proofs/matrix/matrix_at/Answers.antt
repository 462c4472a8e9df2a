-- `openings::matrix::matrix_at` meets its contract. Assumes nothing.
use mathlib.Core.Path.{sym, ap, ap₂, ◌∙◌, subst⁻¹}
use mathlib.Core.List.{map, tail}
use Prim.Native.Nat.{ℕ}
use native.Mathlib.Omega.{arith}
use lib.ListN.{take}
use Rattle.field.specs.Element.{Elem, of, words, ◌⊗◌, ◌⊖◌}
use Rattle.field.proofs.Words.{of-result}
use Rattle.domain.specs.Size.{is_size}
use Rattle.domain.specs.Domain.{vanishing}
use Rattle.domain.specs.Known.{OutsideDomain}
use Rattle.domain.specs.Polynomial.{Poly, eval}
use Rattle.domain.proofs.SizeLaws.{size_fits, sized_positive, size_for_is_size}
use Rattle.protocol.specs.Circuit.{sizes_of}
use Rattle.protocol.specs.Index.{Index, index, index_at}
use Rattle.protocol.specs.Checks.{numerator_value, denominator_value}
use Rattle.protocol.specs.Messages.{ratio, matrix_remainder, matrix_quotient}
use Rattle.poly.proofs.LentParts.{returned, lent_length}
use Rattle.matrix_sumcheck.specs.MatrixGiven.{lagrange_values}
use Rattle.matrix_sumcheck.proofs.MatrixTerms.{given_size, well_formed_at}
use Rattle.openings.specs.OpeningsGiven.{index_meaning}
use Rattle.openings.proofs.OpeningLaws.{made_in, made_holds, made_length, made_is, made_list, index_back}
use Rattle.openings.proofs.ValueLaws.{matrix-quotient-value}
use Rattle.openings.proofs.matrix.matrix_at.Goals as goal

pub slice_bounds-places-end : goal.slice_bounds-places-end
slice_bounds-places-end c = size_fits _ c.size_of-size.ensures

pub slice_bounds-lagrange_values_into-end : goal.slice_bounds-lagrange_values_into-end
slice_bounds-lagrange_values_into-end c = lent_length 1024 (size_fits _ c.size_of-size.ensures)

pub lagrange_values_into-requires : goal.lagrange_values_into-requires
lagrange_values_into-requires c =
    record {
      lt_p = c.requires.lt_p;
      out_value =
          ap is_size (sym (lent_length 1024 (size_fits _ c.size_of-size.ensures)))
          ∙ (ap is_size c.size_of-size.ensures ∙ size_for_is_size _);
    }

pub slice_bounds-places-end-2 : goal.slice_bounds-places-end-2
slice_bounds-places-end-2 c =
    made_holds (made_in c.lagrange_values_into.new.out (size_fits _ c.size_of-size.ensures) c.lagrange_values_into.auto.out)

pub slice_bounds-index_at-end : goal.slice_bounds-index_at-end
slice_bounds-index_at-end c =
    made_length (made_in c.lagrange_values_into.new.out (size_fits _ c.size_of-size.ensures) c.lagrange_values_into.auto.out)

pub index_at-opened-requires : goal.index_at-opened-requires
index_at-opened-requires c =
    let h = c.requires in
    record {
      lt_p = h.lt_p;
      r_value = h.r_value;
      entry_words = h.entries_within.words;
      places_len =
          sym (made_length (made_in c.lagrange_values_into.new.out (size_fits _ c.size_of-size.ensures) c.lagrange_values_into.auto.out))
          ∙ c.size_of-size.ensures;
    }

pub slice_bounds-ratio-end : goal.slice_bounds-ratio-end
slice_bounds-ratio-end c = size_fits _ c.size_of-size.ensures

pub slice_bounds-ratio_into-end : goal.slice_bounds-ratio_into-end
slice_bounds-ratio_into-end c = lent_length 1024 (size_fits _ c.size_of-size.ensures)

pub ratio_into-requires : goal.ratio_into-requires
ratio_into-requires c =
    let h = c.requires in
    record {
      lt_p = h.lt_p;
      entries_within = h.entries_within;
      out_len = sym (lent_length 1024 (size_fits _ c.size_of-size.ensures)) ∙ c.size_of-size.ensures;
    }

pub slice_bounds-ratio-end-2 : goal.slice_bounds-ratio-end-2
slice_bounds-ratio-end-2 c = made_holds (made_in c.ratio_into.new.out (size_fits _ c.size_of-size.ensures) c.ratio_into.auto.out)

pub slice_bounds-parted_at-end : goal.slice_bounds-parted_at-end
slice_bounds-parted_at-end c = made_length (made_in c.ratio_into.new.out (size_fits _ c.size_of-size.ensures) c.ratio_into.auto.out)

pub parted_at-parts-requires : goal.parted_at-parts-requires
parted_at-parts-requires c =
    record {
      p_nonzero = omega (arith, c.requires.lt_p);
      f_nonzero =
          omega (
            arith,
            made_length (made_in c.ratio_into.new.out (size_fits _ c.size_of-size.ensures) c.ratio_into.auto.out),
            sized_positive _ c.size_of-size.ensures,
          );
    }

pub over_vanishing-requires : goal.over_vanishing-requires
over_vanishing-requires c =
    record {
      lt_p = c.requires.lt_p;
      n_value = (ap is_size c.size_of-size.ensures ∙ size_for_is_size _);
      outside_domain =
          subst⁻¹ (λ (m : ℕ). OutsideDomain c.args.p m c.args.challenges.now.gamma) c.size_of-size.ensures c.requires.outside_domain;
    }

pub returns : goal.returns
unfolding matrix_remainder sizes_of
returns c q k M G H L scaled =
    let places_made = made_in c.lagrange_values_into.new.out (size_fits _ c.size_of-size.ensures) c.lagrange_values_into.auto.out in
    let a = c.args in
    let h = a.challenges.now in
    let K = G.known in
    let v = K.value in
    let α : Elem q = of h.alpha in
    let β : Elem q = of h.beta in
    let γ : Elem q = of h.gamma in
    let f : Poly q = ratio k α β M in
    let places = made_is places_made ∙ c.lagrange_values_into.ensures q K
    ∙ ap (λ (m : ℕ). words (lagrange_values m γ)) (sym (lent_length 1024 (size_fits _ c.size_of-size.ensures)) ∙ made_length places_made) in
    let indexed = c.index_at-opened.ensures q K k M G.rows G.columns G.matrix γ places in
    let read =
    made_list (made_in c.ratio_into.new.out (size_fits _ c.size_of-size.ensures) c.ratio_into.auto.out) f
    (c.ratio_into.ensures q k M a.circuit.now.r a.circuit.now.c h.alpha h.beta G H L) in
    let whole =
    of-result (eval (map of (take c.size_of-size.result (returned 1024 c.size_of-size.result c.ratio_into.new.out))) γ)
    (c.parted_at-parts.ensures q v).whole ∙ ap (λ (g : Poly q). eval g γ) read in
    record {
      is-index = indexed;
      is-remainder = (c.parted_at-parts.ensures q v).rest ∙ ap (λ (g : Poly q). (eval (tail g) γ).word) read;
      is-quotient =
          c.over_vanishing.ensures q K (eval (matrix_quotient k α β M) γ)
          (c.difference_at-difference.ensures q v (sizes_of k) G.rows G.columns scaled
          ∙ ap₂ (λ (w : Index (Elem q)) (x : Elem q). numerator_value (sizes_of k) α β w ⊖ denominator_value (sizes_of k) α β w ⊗ x)
          (index_back (index_meaning c.index_at-opened.result) (index_at (index k M) γ) indexed) whole
          ∙ matrix-quotient-value G.qualifies k (well_formed_at G H.well_formed) α β H.α-outside H.β-outside M γ
          ∙ ap (λ (m : ℕ). eval (matrix_quotient k α β M) γ ⊗ vanishing m γ) (given_size G ∙ sym c.size_of-size.ensures));
    }
