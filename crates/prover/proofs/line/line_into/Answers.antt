-- `prover::line::line_into` meets its contract. Assumes nothing.
use mathlib.Core.Path.{◌≡◌, refl, sym, ap, ◌∙◌}
use mathlib.Core.List.{List, map, tail}
use Prim.Native.Nat.{ℕ, ◌+◌, ◌-◌, ◌*◌, ◌≤◌, ◌<◌}
use native.Mathlib.Omega.{arith}
use lib.ListN.{length, take, length-map}
use Rattle.algebra.specs.Lists.{tabulate}
use Rattle.field.specs.Element.{Elem, of, words}
use Rattle.domain.specs.Size.{is_size}
use Rattle.domain.specs.Polynomial.{Poly, ◌⊞◌, ◌·◌, ◌⊠◌, quotient, remainder, interpolate}
use Rattle.domain.proofs.SizeLaws.{size_positive, size_bound}
use Rattle.protocol.specs.Three.{Three, each, map_three}
use Rattle.protocol.specs.Circuit.{Circuit}
use Rattle.protocol.specs.Checks.{weighted}
use Rattle.protocol.specs.Calls.{circuit_of}
use Rattle.protocol.proofs.AdmissionLaws.{WellFormed}
use Rattle.protocol.proofs.ProverForms.{column_sum}
use Rattle.shared.specs.Meanings.{three}
use Rattle.circuit.specs.Given.{given, Fits}
use Rattle.circuit.proofs.Fitting.{R-fits, C-fits}
use Rattle.poly.proofs.LentParts.{part_order, returned, lent_length, back_holds, back_length, back_is, back_list}
use Rattle.prover.proofs.RowLaws.{known_formed}
use Rattle.prover.proofs.ProductLaws.{factor_made, rest_made, quotient_made}
use Rattle.prover.proofs.LineLaws.{each_within}
use Rattle.prover.proofs.LineParts.{columns, line-remainder_made, line-quotient_made}
use Rattle.prover.proofs.line.line_into.Goals as goal

-- |C| is a size, at least 1, and it and the one below fit into an array
module _ {p r c x : ℕ} {ea eb ec z m : List ℕ} (F : Fits p r c x ea eb ec z m) where
  positive : 0 < c
  positive = size_positive c (C-fits F)

  bound : c ≤ 1024
  bound = size_bound c (C-fits F)

  short : c - 1 ≤ 1024
  short = omega (arith, bound)

pub overflow_sub-l : goal.overflow_sub-l
overflow_sub-l c = omega (arith, positive c.requires.fits)

pub slice_bounds-values-end : goal.slice_bounds-values-end
slice_bounds-values-end c = bound c.requires.fits

pub slice_bounds-column_weights_into-end : goal.slice_bounds-column_weights_into-end
slice_bounds-column_weights_into-end c = lent_length 1024 (bound c.requires.fits)

pub column_weights_into-requires : goal.column_weights_into-requires
column_weights_into-requires c =
    let F = c.requires.fits in
    record {
      lt_p = c.requires.modulus.0;
      r_value = R-fits F;
      each_within = each_within refl (lent_length 1024 (bound c.requires.fits)) F.within;
    }

pub slice_bounds-values-end-2 : goal.slice_bounds-values-end-2
slice_bounds-values-end-2 c =
    back_holds 1024 (bound c.requires.fits) c.column_weights_into.new.out c.column_weights_into.auto.out

pub slice_bounds-divide_product_into-end : goal.slice_bounds-divide_product_into-end
slice_bounds-divide_product_into-end c =
    back_length 1024 (bound c.requires.fits) c.column_weights_into.new.out c.column_weights_into.auto.out

pub slice_bounds-weights-end : goal.slice_bounds-weights-end
slice_bounds-weights-end c = bound c.requires.fits

pub slice_bounds-divide_product_into-end-2 : goal.slice_bounds-divide_product_into-end-2
slice_bounds-divide_product_into-end-2 c = lent_length 1024 (bound c.requires.fits)

pub slice_bounds-rest-end : goal.slice_bounds-rest-end
slice_bounds-rest-end c = bound c.requires.fits

pub slice_bounds-divide_product_into-end-3 : goal.slice_bounds-divide_product_into-end-3
slice_bounds-divide_product_into-end-3 c = lent_length 1024 (bound c.requires.fits)

pub slice_bounds-high-end : goal.slice_bounds-high-end
slice_bounds-high-end c = short c.requires.fits

pub slice_bounds-divide_product_into-end-4 : goal.slice_bounds-divide_product_into-end-4
slice_bounds-divide_product_into-end-4 c = lent_length 1024 (short c.requires.fits)

pub divide_product_into-requires : goal.divide_product_into-requires
divide_product_into-requires c =
    let n : ℕ = c.args.input.now.circuit.c in
    let left = back_length 1024 (bound c.requires.fits) c.column_weights_into.new.out c.column_weights_into.auto.out in
    let lent = sym (lent_length 1024 (bound c.requires.fits)) ∙ left in
    let last : n - 1 + 1 ≡ n = omega (arith, positive c.requires.fits) in record {
      modulus = c.requires.modulus;
      left_value = ap is_size (sym left) ∙ C-fits c.requires.fits;
      right_len = (c.requires.fits.z-length ∙ left, lent);
      rest_len = (lent, ap (λ (k : ℕ). k + 1) (sym (lent_length 1024 (short c.requires.fits))) ∙ last ∙ left);
    }

pub slice_bounds-rest-end-2 : goal.slice_bounds-rest-end-2
slice_bounds-rest-end-2 c =
    back_holds 1024 (bound c.requires.fits) c.divide_product_into.new.rest c.divide_product_into.auto.rest

pub slice_bounds-remainder_from-end : goal.slice_bounds-remainder_from-end
slice_bounds-remainder_from-end c = back_length 1024 (bound c.requires.fits) c.divide_product_into.new.rest c.divide_product_into.auto.rest

pub remainder_from-requires : goal.remainder_from-requires
remainder_from-requires c =
    let d = c.divide_product_into in
    let whole = back_length 1024 (bound c.requires.fits) d.new.rest d.auto.rest in
    let size : length c.args.remainder.now + 1 ≡ c.args.input.now.circuit.c = omega (arith, positive c.requires.fits) in
    record {
      p_nonzero = omega arith;
      rest_len = (sym (size ∙ whole), c.requires.fits.m-length ∙ ap (λ (n : ℕ). 2 * n) whole);
    }

pub slice_bounds-weights-end-2 : goal.slice_bounds-weights-end-2
slice_bounds-weights-end-2 c =
    back_holds 1024 (bound c.requires.fits) c.divide_product_into.new.factor c.divide_product_into.auto.factor

pub slice_bounds-quotient_from-end : goal.slice_bounds-quotient_from-end
slice_bounds-quotient_from-end c =
    back_length 1024 (bound c.requires.fits) c.divide_product_into.new.factor c.divide_product_into.auto.factor

pub slice_bounds-high-end-2 : goal.slice_bounds-high-end-2
slice_bounds-high-end-2 c =
    back_holds 1024 (short c.requires.fits) c.divide_product_into.new.out c.divide_product_into.auto.out

pub slice_bounds-quotient_from-end-2 : goal.slice_bounds-quotient_from-end-2
slice_bounds-quotient_from-end-2 c = back_length 1024 (short c.requires.fits) c.divide_product_into.new.out c.divide_product_into.auto.out

pub quotient_from-requires : goal.quotient_from-requires
quotient_from-requires c =
    let d = c.divide_product_into in
    let F = c.requires.fits in
    let size : length c.args.quotient.now ≡ c.args.input.now.circuit.c = c.requires.remainder_len.1 in
    let above : 0 < length c.args.quotient.now = omega (arith, positive F) in
    let below : c.args.input.now.circuit.c - 1 ≤ length c.args.quotient.now = omega arith in record {
      p_nonzero = omega arith;
      out_nonzero = (
        above,
        sym (size ∙ back_length 1024 (bound F) d.new.factor d.auto.factor),
        part_order (back_length 1024 (short F) d.new.out d.auto.out) below,
      );
      m_len = F.m-length ∙ ap (λ (n : ℕ). 2 * n) (sym size);
    }

pub returns : goal.returns
unfolding circuit_of
returns c q known Q =
    let a = c.args in
    let i = a.input.now in
    let l = i.circuit.matrices in
    let F = c.requires.fits in
    let w = c.column_weights_into in
    let d = c.divide_product_into in
    let n : ℕ = i.circuit.c in
    let k : Circuit = circuit_of (given i.circuit.r i.circuit.c i.circuit.x l.a.now l.b.now l.c.now) in
    let W : WellFormed q.p k = known_formed known F.well_formed in
    let z : List (Elem q) = map of i.z.now in
    let m : Poly q = map of i.m.now in
    let m-length : length m ≡ 2 * n = length-map i.m.now of ∙ F.m-length in
    let α : Elem q = of a.alpha in
    let η : Three (Elem q) = map_three of (three a.eta) in
    let f : ℕ → Elem q = λ j. weighted η (each (λ M. column_sum k M α j)) in
    let P : Poly q = columns Q k W z (of i.mask) m m-length α η in
    let divided = d.ensures q known in
    let left : map of (take n (returned 1024 n w.new.out)) ≡ tabulate n f =
    ap (map of) (back_is 1024 (bound F) w.new.out w.auto.out)
    ∙ w.ensures q known k refl refl ∙ ap (λ (l : ℕ). tabulate l f) (sym (lent_length 1024 (bound F))) in
    let rest-size = sym (back_length 1024 (bound F) d.new.rest d.auto.rest) in
    let size = sym (back_length 1024 (bound F) w.new.out w.auto.out) in
    let is-rest : map of (take n (returned 1024 n d.new.rest)) ≡ remainder n (P ⊠ interpolate n z) =
    back_list 1024 (bound F) d.new.rest d.auto.rest _ (rest_made divided size left refl) in
    let is-weights : map of (take n (returned 1024 n d.new.factor)) ≡ P =
    back_list 1024 (bound F) d.new.factor d.auto.factor _ (factor_made divided size left refl) in
    let is-high : map of (take (n - 1) (returned 1024 (n - 1) d.new.out)) ≡ quotient n (P ⊠ interpolate n z) =
    back_list 1024 (short F) d.new.out d.auto.out _ (quotient_made divided size left refl) in (
      c.remainder_from.ensures q known.value
          ∙ (λ t. words (tail (remainder (rest-size t) m ⊞ is-rest t)))
          ∙ ap words (line-remainder_made Q k W z (of i.mask) m m-length α η),
      c.quotient_from.ensures q known.value
          ∙ (λ t. words (quotient (c.requires.remainder_len.1 t) m ⊞ (of i.mask · is-weights t ⊞ is-high t)))
          ∙ ap words (line-quotient_made Q k W z (of i.mask) m m-length α η),
    )
