-- The sum of a_M/b_M over K_M is M̂(α,β), for α outside R and β outside C: b_M is |R||C|(α - row)(β - col) there and not 0, and
-- a_M/b_M is an entry's term of M̂(α,β) at its place, and 0 after the last entry. Assumes nothing.
use mathlib.Core.Path.{◌≡◌, refl, sym, ap, ap₂, ◌∙◌}
use mathlib.Core.Logic.{◌≢◌}
use mathlib.Core.List.{List, [], ◌∷◌}
use Prim.Native.Nat.{ℕ, ◌≤◌, ◌<◌}
use lib.ListN.{length, get_or, get_or-eq_default}
use native.Mathlib.Omega.{arith}
use native.Mathlib.Decide.{dec_lt}
use Rattle.algebra.proofs.Counting.{all-at}
use Rattle.algebra.proofs.FieldLaws.{mul-not-zero}
use Rattle.algebra.proofs.RingLaws.{zero-mul, mul-zero}
use Rattle.algebra.proofs.Solver.{◌:+◌, ◌:-◌, ◌:*◌, :-◌, ◌:=◌, ◌⊙◌, ◌from◌, ring, ring_by}
use Rattle.algebra.proofs.SumLaws.{sum-of-list}
use Rattle.field.specs.Prime.{Prime}
use Rattle.field.specs.Element.{Elem, of, 𝟘, 𝟙, ◌⊗◌, ◌⊖◌}
use Rattle.field.specs.Power.{reciprocal, ◌⊘◌}
use Rattle.field.proofs.ElementLaws.{mul_one, prime_ring}
use Rattle.field.proofs.Field.{prime_field, reciprocal-product}
use Rattle.domain.specs.Domain.{element, Outside, vanishing, lagrange, sum_over}
use Rattle.domain.specs.Polynomial.{eval}
use Rattle.domain.specs.Qualifies.{Qualifies}
use Rattle.domain.proofs.SizeLaws.{size_positive}
use Rattle.domain.proofs.DomainLaws.{inside-element}
use Rattle.domain.proofs.Divisors.{lagrange_divisor_lem}
use Rattle.domain.proofs.Lagrange.{lagrange_off}
use Rattle.protocol.specs.Three.{MatrixName, at}
use Rattle.protocol.specs.Circuit.{Entry, Circuit, sizes_of, extension}
use Rattle.protocol.specs.Index.{Index, index_at, row_element, column_element, index}
use Rattle.protocol.specs.Checks.{numerator_value, denominator_value}
use Rattle.protocol.specs.Messages.{numerator, denominator}
use Rattle.protocol.proofs.AdmissionLaws.{WellFormed, EntryFits}
use Rattle.protocol.proofs.IndexPolynomials.{K-holds, entry_index, filling_index, index-at-entry, index-at-filling}
use Rattle.protocol.proofs.MatrixPolynomials.{sizeK, eval-numerator, eval-denominator}

module _ {q : Prime} (Q : Qualifies q) (c : Circuit) (W : WellFormed q.p c) (α β : Elem q) (α-outside : Outside c.|R| α)
    (β-outside : Outside c.|C| β) (M : MatrixName) where
  abbrev entries : List Entry
  entries = at c.matrices M

  -- |R|(α - row) and |C|(β - col)
  abbrev row_factor : Elem q → Elem q
  row_factor row = of c.|R| ⊗ (α ⊖ row)

  abbrev column_factor : Elem q → Elem q
  column_factor col = of c.|C| ⊗ (β ⊖ col)

  row-not-zero : (i : ℕ) → i < c.|R| → row_factor (element c.|R| i) ≢ 𝟘
  row-not-zero i below =
      lagrange_divisor_lem Q c.|R| W.R-size (element c.|R| i) α (inside-element Q c.|R| W.R-size i below) α-outside

  column-not-zero : (i : ℕ) → i < c.|C| → column_factor (element c.|C| i) ≢ 𝟘
  column-not-zero i below =
      lagrange_divisor_lem Q c.|C| W.C-size (element c.|C| i) β (inside-element Q c.|C| W.C-size i below) β-outside

  -- b_M at a point where the index has the values v: |R||C|(α - row)(β - col)
  denominator_factors : (y : Elem q) (v : Index (Elem q)) → index_at (index c M) y ≡ v → v.rowcol ≡ v.row ⊗ v.col
      → eval (denominator c α β M) y ≡ row_factor v.row ⊗ column_factor v.col
  unfolding denominator_value sizes_of
  denominator_factors y v here product =
      eval-denominator c α β M y ∙ ap (denominator_value (sizes_of c) α β) here
      ∙ ring_by (prime_ring q) (of c.|R| ∷ of c.|C| ∷ α ∷ β ∷ v.row ∷ v.col ∷ v.rowcol ∷ [])
      (λ m n α β r c p. m :* n :* (α :* β :- α :* c :- β :* r :+ p) := (m :* (α :- r)) :* (n :* (β :- c)) from (m :* n ⊙ (p := r :* c)) ∷ [])
      (product, tt) tt

  -- an entry's term of M̂(α,β)
  abbrev pub term : Entry → Elem q
  term e = of e.value ⊗ lagrange c.|R| (element c.|R| e.row) α ⊗ lagrange c.|C| (element c.|C| e.column) β

  module _ (i : ℕ) where
    -- place i of K_M
    abbrev κ : Elem q
    κ = element (sizeK c M) i

    abbrev e : Entry
    e = get_or entries i (record { row = 0; column = 0; value = 0 })

    module _ (below : i < length entries) where
      fits : EntryFits q.p c e
      fits = all-at (EntryFits q.p c) entries (W.fit M) i _ below

      entry-denominator : eval (denominator c α β M) κ ≡ row_factor (element c.|R| e.row) ⊗ column_factor (element c.|C| e.column)
      unfolding row_element column_element
      entry-denominator = denominator_factors κ (entry_index c e) (index-at-entry Q c W M i below _) refl

      pub ratio-at-entry : eval (numerator c α β M) κ ⊘ eval (denominator c α β M) κ ≡ term e
      unfolding numerator_value sizes_of row_element column_element
      ratio-at-entry =
          let row : Elem q = element c.|R| e.row in
          let col : Elem q = element c.|C| e.column in
          ap₂ ◌⊗◌
          (eval-numerator c α β M κ ∙ ap (numerator_value (sizes_of c) α β) (index-at-entry Q c W M i below _))
          (ap reciprocal entry-denominator
          ∙ reciprocal-product (row_factor row) (column_factor col)
          (row-not-zero e.row fits.row_below) (column-not-zero e.column fits.column-below))
          ∙ ring (prime_ring q)
          (vanishing c.|R| α ∷ vanishing c.|C| β ∷ row ∷ col ∷ of e.value ∷ reciprocal (row_factor row) ∷ reciprocal (column_factor col) ∷ [])
          (λ u v r c e i j. u :* v :* (r :* c :* e) :* (i :* j) := e :* (r :* u :* i) :* (c :* v :* j)) tt
          ∙ sym (ap₂ (λ x y. of e.value ⊗ x ⊗ y) (lagrange_off c.|R| row α α-outside) (lagrange_off c.|C| col β β-outside))

    module _ (after : length entries ≤ i) (within : i < sizeK c M) where
      filling-denominator : eval (denominator c α β M) κ ≡ row_factor (element c.|R| 0) ⊗ column_factor (element c.|C| 0)
      unfolding element
      filling-denominator = denominator_factors κ filling_index (index-at-filling Q c W M i after within) (sym (mul_one 𝟙))

      pub ratio-at-filling : eval (numerator c α β M) κ ⊘ eval (denominator c α β M) κ ≡ 𝟘
      unfolding numerator_value
      ratio-at-filling =
          ap (λ x. x ⊘ eval (denominator c α β M) κ)
          (eval-numerator c α β M κ ∙ ap (numerator_value (sizes_of c) α β) (index-at-filling Q c W M i after within) ∙ mul-zero (prime_ring q) _)
          ∙ zero-mul (prime_ring q) _

  -- b_M at place i: by the entry there, and by row 0 and column 0 after the last entry
  pub denominator-at :
      (i : ℕ) → i < sizeK c M
      → eval (denominator c α β M) (element (sizeK c M) i)
      ≡ row_factor (element c.|R| (e i).row) ⊗ column_factor (element c.|C| (e i).column)
  denominator-at i within = elim (dec_lt i (length entries)) [
    | yes below ↦ entry-denominator i below
    | no past ↦
        filling-denominator i (omega arith) within
        ∙ sym (ap (λ (x : Entry). row_factor (element c.|R| x.row) ⊗ column_factor (element c.|C| x.column))
        (get_or-eq_default entries (record { row = 0; column = 0; value = 0 }) (omega arith)))
  ]

  pub denominator-not-zero : (i : ℕ) → i < sizeK c M → eval (denominator c α β M) (element (sizeK c M) i) ≢ 𝟘
  denominator-not-zero i within vanishes = elim (dec_lt i (length entries)) [
    | yes below ↦
        mul-not-zero (prime_ring q) (prime_field q) _ _ (row-not-zero (e i).row (fits i below).row_below)
        (column-not-zero (e i).column (fits i below).column-below) (sym (entry-denominator i below) ∙ vanishes)
    | no past ↦
        mul-not-zero (prime_ring q) (prime_field q) _ _ (row-not-zero 0 (size_positive c.|R| W.R-size))
        (column-not-zero 0 (size_positive c.|C| W.C-size)) (sym (filling-denominator i (omega arith) within) ∙ vanishes)
  ]

  -- Σ over K_M of a_M/b_M is M̂(α,β)
  pub sum-of_ratios : sum_over (sizeK c M) (λ y. eval (numerator c α β M) y ⊘ eval (denominator c α β M) y) ≡ extension c M α β
  unfolding sum_over extension
  sum-of_ratios = sum-of-list (prime_ring q) term _ entries (sizeK c M) _ (K-holds c W M) ratio-at-entry ratio-at-filling
