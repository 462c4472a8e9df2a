-- `openings::open_all` meets its contract. Assumes nothing.
use mathlib.Core.Path.{refl, sym, ap, ◌∙◌}
use mathlib.Core.List.{map}
use Prim.Native.Nat.{ℕ}
use native.Mathlib.Omega.{arith}
use Rattle.algebra.specs.Lists.{tabulate}
use Rattle.field.specs.Element.{Elem, of}
use Rattle.domain.specs.Size.{is_size}
use Rattle.domain.proofs.SizeLaws.{size_bound}
use Rattle.protocol.specs.Three.{Three, each, map_three}
use Rattle.protocol.specs.Circuit.{Circuit}
use Rattle.protocol.specs.Checks.{weighted}
use Rattle.protocol.specs.Calls.{circuit_of}
use Rattle.protocol.proofs.ProverForms.{column_sum}
use Rattle.shared.specs.Meanings.{three}
use Rattle.circuit.specs.Given.{circuit_words}
use Rattle.circuit.proofs.Fitting.{R-fits, C-fits}
use Rattle.poly.proofs.LentParts.{lent_length}
use Rattle.prover.proofs.LineLaws.{each_within}
use Rattle.matrix_sumcheck.specs.MatrixGiven.{lagrange_values}
use Rattle.openings.proofs.OpeningLaws.{made_in, made_holds, made_length, made_is, made_list, made_by_length}
use Rattle.openings.proofs.open_all.Goals as goal

pub slice_bounds-rows-end : goal.slice_bounds-rows-end
slice_bounds-rows-end c = size_bound _ (R-fits c.requires.fits)

pub slice_bounds-lagrange_values_into-end : goal.slice_bounds-lagrange_values_into-end
slice_bounds-lagrange_values_into-end c = lent_length 1024 (size_bound _ (R-fits c.requires.fits))

pub lagrange_values_into-requires : goal.lagrange_values_into-requires
lagrange_values_into-requires c =
    record {
      lt_p = c.requires.lt_p;
      out_value = ap is_size (sym (lent_length 1024 (size_bound _ (R-fits c.requires.fits)))) ∙ R-fits c.requires.fits;
    }

pub slice_bounds-columns-end : goal.slice_bounds-columns-end
slice_bounds-columns-end c = size_bound _ (C-fits c.requires.fits)

pub slice_bounds-lagrange_values_into-end-2 : goal.slice_bounds-lagrange_values_into-end-2
slice_bounds-lagrange_values_into-end-2 c = lent_length 1024 (size_bound _ (C-fits c.requires.fits))

pub lagrange_values_into-requires-2 : goal.lagrange_values_into-requires-2
lagrange_values_into-requires-2 c =
    record {
      lt_p = c.requires.lt_p;
      out_value = ap is_size (sym (lent_length 1024 (size_bound _ (C-fits c.requires.fits)))) ∙ C-fits c.requires.fits;
    }

pub slice_bounds-rows-end-2 : goal.slice_bounds-rows-end-2
slice_bounds-rows-end-2 c =
    made_holds (made_in c.lagrange_values_into.new.out (size_bound _ (R-fits c.requires.fits)) c.lagrange_values_into.auto.out)

pub slice_bounds-weights_from-end : goal.slice_bounds-weights_from-end
slice_bounds-weights_from-end c =
    made_length (made_in c.lagrange_values_into.new.out (size_bound _ (R-fits c.requires.fits)) c.lagrange_values_into.auto.out)

pub slice_bounds-weights-end : goal.slice_bounds-weights-end
slice_bounds-weights-end c = size_bound _ (C-fits c.requires.fits)

pub slice_bounds-weights_from-end-2 : goal.slice_bounds-weights_from-end-2
slice_bounds-weights_from-end-2 c = lent_length 1024 (size_bound _ (C-fits c.requires.fits))

pub weights_from-requires : goal.weights_from-requires
weights_from-requires c =
    let F = c.requires.fits in
    let rows = made_in c.lagrange_values_into.new.out (size_bound _ (R-fits F)) c.lagrange_values_into.auto.out in
    record {
      p_nonzero = omega (arith, c.requires.lt_p);
      each_within = each_within (made_length rows) (lent_length 1024 (size_bound _ (C-fits F))) F.within;
    }

pub slice_bounds-rows-end-3 : goal.slice_bounds-rows-end-3
slice_bounds-rows-end-3 c =
    made_holds (made_in c.lagrange_values_into.new.out (size_bound _ (R-fits c.requires.fits)) c.lagrange_values_into.auto.out)

pub slice_bounds-lagrange-end : goal.slice_bounds-lagrange-end
slice_bounds-lagrange-end c =
    made_length (made_in c.lagrange_values_into.new.out (size_bound _ (R-fits c.requires.fits)) c.lagrange_values_into.auto.out)

pub slice_bounds-columns-end-2 : goal.slice_bounds-columns-end-2
slice_bounds-columns-end-2 c =
    made_holds (made_in c.lagrange_values_into-2.new.out (size_bound _ (C-fits c.requires.fits)) c.lagrange_values_into-2.auto.out)

pub slice_bounds-lagrange-end-2 : goal.slice_bounds-lagrange-end-2
slice_bounds-lagrange-end-2 c =
    made_length (made_in c.lagrange_values_into-2.new.out (size_bound _ (C-fits c.requires.fits)) c.lagrange_values_into-2.auto.out)

pub slice_bounds-weights-end-2 : goal.slice_bounds-weights-end-2
slice_bounds-weights-end-2 c = made_holds (made_in c.weights_from.new.out (size_bound _ (C-fits c.requires.fits)) c.weights_from.auto.out)

pub slice_bounds-opened_from-end : goal.slice_bounds-opened_from-end
slice_bounds-opened_from-end c =
    made_length (made_in c.weights_from.new.out (size_bound _ (C-fits c.requires.fits)) c.weights_from.auto.out)

pub opened_from-requires : goal.opened_from-requires
opened_from-requires c =
    let h = c.requires in
    let columns_fit = size_bound _ (C-fits h.fits) in
    let rows = made_in c.lagrange_values_into.new.out (size_bound _ (R-fits h.fits)) c.lagrange_values_into.auto.out in
    let columns = made_in c.lagrange_values_into-2.new.out columns_fit c.lagrange_values_into-2.auto.out in
    let weights = made_in c.weights_from.new.out columns_fit c.weights_from.auto.out in
    record {
      lt_p = h.lt_p;
      fits = h.fits;
      points_outside = h.points_outside;
      rows_len = (sym (made_length rows), sym (made_length columns), sym (made_length weights));
    }

pub returns : goal.returns
unfolding circuit_of
returns c q K =
    let columns_made = made_in c.lagrange_values_into-2.new.out (size_bound _ (C-fits c.requires.fits)) c.lagrange_values_into-2.auto.out in
    let rows_made = made_in c.lagrange_values_into.new.out (size_bound _ (R-fits c.requires.fits)) c.lagrange_values_into.auto.out in
    let a = c.args in
    let h = a.challenges.now in
    let k : Circuit = circuit_of (circuit_words a.input.now.circuit) in
    let α : Elem q = of h.alpha in
    let rows = made_by_length rows_made (λ (n : ℕ). lagrange_values n α) (c.lagrange_values_into.ensures q K) in
    let β : Elem q = of h.beta in
    let columns = made_by_length columns_made (λ (n : ℕ). lagrange_values n β) (c.lagrange_values_into-2.ensures q K) in
    let η : Three (Elem q) = map_three of (three h.eta) in
    c.opened_from.ensures q K
    (record { by_row = made_is rows_made ∙ rows; by_column = made_is columns_made ∙ columns }) (three h.eta)
    (ap (map (of {q = q})) (made_is (made_in c.weights_from.new.out (size_bound _ (C-fits c.requires.fits)) c.weights_from.auto.out))
    ∙ c.weights_from.ensures q K.value k (made_length rows_made) refl α
    (made_list rows_made (lagrange_values a.input.now.circuit.r α) rows ∙ ap (λ (n : ℕ). lagrange_values n α) (made_length rows_made))
    ∙ ap (λ (n : ℕ). tabulate n (λ j. weighted η (each (λ M. column_sum k M α j))))
    (sym (lent_length 1024 (size_bound _ (C-fits c.requires.fits)))))
