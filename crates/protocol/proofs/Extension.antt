-- M̂ and ẑ_M as polynomials: M̂(α,Y) of length |C|, ẑ_M of length |R|, whose values on R are the rows' sums. Assumes nothing.
use mathlib.Core.Path.{◌≡◌, refl, sym, ap, ap₂, ◌∙◌}
use mathlib.Core.Bool.{Bool, true, false}
use mathlib.Core.List.{List, [], ◌∷◌}
use Prim.Native.Nat.{ℕ, ◌<◌}
use lib.Dec.{eqb}
use lib.ListN.{get_or}
use borrow.Author.Tests.{eq-eqb, ne_eqb}
use Rattle.algebra.specs.Lists.{pick}
use Rattle.algebra.specs.Ring.{CommRing}
use Rattle.algebra.specs.Sum.{sum_list}
use Rattle.algebra.proofs.Counting.{all_map}
use Rattle.algebra.proofs.RingLaws.{mul-zero, zero-mul}
use Rattle.algebra.proofs.Solver.{◌:*◌, ◌:=◌, ring}
use Rattle.algebra.proofs.SumLaws.{sum_ext, sum_one, sum-scale, sum_list_ext, sum_list-scale, sum-sum_list}
use Rattle.field.specs.Prime.{Prime}
use Rattle.field.specs.Element.{Elem, of, 𝟘, 𝟙, ◌⊗◌}
use Rattle.field.proofs.ElementLaws.{mul_one, mul_comm, prime_ring}
use Rattle.domain.specs.Domain.{element, lagrange, sum_over}
use Rattle.domain.specs.Polynomial.{Poly, eval, values_on}
use Rattle.domain.specs.Qualifies.{Qualifies}
use Rattle.domain.proofs.Interpolation.{IsPolynomial, polynomial_scale, polynomial_sum_list, getD_values_on}
use Rattle.domain.proofs.Lagrange.{lagrange_on, lagrange_polynomial}
use Rattle.protocol.specs.Three.{MatrixName, at}
use Rattle.protocol.specs.Circuit.{Entry, Circuit, extension, row_sum}
use Rattle.protocol.specs.Messages.{image}
use Rattle.protocol.proofs.AdmissionLaws.{WellFormed}

module _ {q : Prime} (Q : Qualifies q) (c : Circuit) (W : WellFormed q.p c) (M : MatrixName) where
  abbrev R : CommRing (Elem q)
  R = prime_ring q

  abbrev entries : List Entry
  entries = at c.matrices M

  -- L_row of R at y, and L_col of C at y, for an entry
  abbrev row_value : Entry → Elem q → Elem q
  row_value e y = lagrange c.|R| (element c.|R| e.row) y

  abbrev column_value : Entry → Elem q → Elem q
  column_value e y = lagrange c.|C| (element c.|C| e.column) y

  pub extension_polynomial : (α : Elem q) → IsPolynomial c.|C| (extension c M α)
  unfolding extension
  extension_polynomial α =
      polynomial_sum_list (λ e y. of e.value ⊗ row_value e α ⊗ column_value e y) entries
      (all_map (λ e f. polynomial_scale (of e.value ⊗ row_value e α) (lagrange_polynomial Q c.|C| W.C-size e.column f.column-below)) entries (W.fit M))

  -- the sum over C of L_col times ẑ is ẑ at the column's element
  column_picks : (f : Elem q → Elem q) (e : Entry) → e.column < c.|C| → sum_over c.|C| (λ u. column_value e u ⊗ f u) ≡ f (element c.|C| e.column)
  unfolding sum_over pick
  column_picks f e l =
      sum_one R c.|C| e.column (λ j. column_value e (element c.|C| j) ⊗ f (element c.|C| j)) l
      (λ j k ne.
      ap (λ v. v ⊗ f (element c.|C| j)) (lagrange_on Q c.|C| W.C-size e.column j l k ∙ ap (λ b. pick b 𝟙 𝟘) (ne_eqb e.column j (λ h. ne (sym h))))
      ∙ zero-mul R _)
      ∙ ap (λ v. v ⊗ f (element c.|C| e.column)) (lagrange_on Q c.|C| W.C-size e.column e.column l l ∙ ap (λ b. pick b 𝟙 𝟘) (eq-eqb e.column e.column refl))
      ∙ mul_comm 𝟙 _ ∙ mul_one _

  -- ẑ_M(y) as a sum over the entries
  pub image_by_entries :
      (ẑ : Poly q) (y : Elem q)
      → image c ẑ M y ≡ sum_list R (λ e. of e.value ⊗ eval ẑ (element c.|C| e.column) ⊗ row_value e y) entries
  unfolding image extension sum_over
  image_by_entries ẑ y =
      let f : Elem q → Elem q = eval ẑ in
      let u : ℕ → Elem q = element c.|C| in
      let weight : Entry → Elem q = λ e. of e.value ⊗ row_value e y in
      sum_ext R c.|C| _ _ (λ j l. mul_comm _ (f (u j)) ∙ sym (sum_list-scale R (f (u j)) (λ e. weight e ⊗ column_value e (u j)) entries))
      ∙ sum-sum_list R c.|C| (λ e j. f (u j) ⊗ (weight e ⊗ column_value e (u j))) entries
      ∙ sum_list_ext R _ _ entries (all_map (λ e fits.
      sum_ext R c.|C| _ _ (λ j l. ring R (f (u j) ∷ weight e ∷ column_value e (u j) ∷ []) (λ z w k. z :* (w :* k) := w :* (k :* z)) tt)
      ∙ sum-scale R c.|C| (weight e) (λ j. column_value e (u j) ⊗ f (u j))
      ∙ ap (λ v. weight e ⊗ v) (column_picks f e fits.column-below)
      ∙ ring R (of e.value ∷ row_value e y ∷ f (u e.column) ∷ []) (λ v r z. v :* r :* z := v :* z :* r) tt) entries (W.fit M))

  pub image_polynomial : (ẑ : Poly q) → IsPolynomial c.|R| (image c ẑ M)
  image_polynomial ẑ =
      let P = polynomial_sum_list (λ e y. of e.value ⊗ eval ẑ (element c.|C| e.column) ⊗ row_value e y) entries
      (all_map (λ e f. polynomial_scale (of e.value ⊗ eval ẑ (element c.|C| e.column)) (lagrange_polynomial Q c.|R| W.R-size e.row f.row_below)) entries (W.fit M)) in
      record { poly = P.poly; poly_length = P.poly_length; poly_value = λ y. P.poly_value y ∙ sym (image_by_entries ẑ y) }

  -- on R it is the row's sum
  pub image_on_rows : (ẑ : Poly q) (i : ℕ) → i < c.|R| → image c ẑ M (element c.|R| i) ≡ row_sum c M (values_on c.|C| ẑ) i
  unfolding row_sum
  image_on_rows ẑ i l =
      image_by_entries ẑ (element c.|R| i)
      ∙ sum_list_ext R _ _ entries (all_map (λ e f.
      ap₂ (λ z v. of e.value ⊗ z ⊗ v) (sym (getD_values_on c.|C| e.column ẑ f.column-below)) (lagrange_on Q c.|R| W.R-size e.row i f.row_below l)
      ∙ choose_by (eqb e.row i) (of e.value ⊗ get_or (values_on c.|C| ẑ) e.column 𝟘)) entries (W.fit M))
    where
      choose_by : (b : Bool) (a : Elem q) → a ⊗ pick b 𝟙 𝟘 ≡ pick b a 𝟘
      choose_by true a = unfold pick in mul_one a
      choose_by false a = unfold pick in mul-zero R a
