-- The forms in which the prover computes: ẑ_M from the rows' sums, Σ η_M M̂(α,Y) from the columns' sums, and a_M/b_M on K_M from
-- the entries, each in one pass over the entries. Assumes nothing.
use mathlib.Core.Path.{◌≡◌, sym, ap, ◌∙◌}
use mathlib.Core.Bool.{Bool, true, false}
use mathlib.Core.List.{List, ◌++◌, map}
use Prim.Native.Nat.{ℕ, ◌-◌, ◌<◌}
use lib.Dec.{eqb}
use lib.ListN.{length, get_or, replicate, length-map}
use native.Mathlib.Decide.{dec_lt}
use native.Mathlib.Omega.{arith}
use Rattle.algebra.specs.Lists.{pick, tabulate}
use Rattle.algebra.specs.Sum.{sum_list}
use Rattle.algebra.proofs.Counting.{all_map}
use Rattle.algebra.proofs.PolynomialLaws.{get_d_tabulate}
use Rattle.algebra.proofs.RingLaws.{mul-zero}
use Rattle.algebra.proofs.SumLaws.{sum_list_ext}
use Rattle.field.specs.Prime.{Prime}
use Rattle.field.specs.Element.{Elem, of, 𝟘, 𝟙, ◌⊗◌}
use Rattle.field.specs.Power.{◌⊘◌}
use Rattle.field.proofs.ElementLaws.{mul_one, prime_ring}
use Rattle.domain.specs.Size.{is_size}
use Rattle.domain.specs.Domain.{Outside, element, lagrange}
use Rattle.domain.specs.Polynomial.{Poly, eval, values_on, interpolate, agreeing}
use Rattle.domain.specs.Qualifies.{Qualifies}
use Rattle.domain.proofs.Interpolation.{length-agreeing, eval-agreeing, interpolate-unique}
use Rattle.domain.proofs.Lagrange.{lagrange_on}
use Rattle.protocol.specs.Three.{MatrixName, A, B, C, Three, at, each}
use Rattle.protocol.specs.Circuit.{Entry, Circuit, row_sum, extension}
use Rattle.protocol.specs.Checks.{weighted}
use Rattle.protocol.specs.Messages.{image, values, ratio, numerator, denominator}
use Rattle.protocol.proofs.AdmissionLaws.{WellFormed}
use Rattle.protocol.proofs.Extension.{image_on_rows}
use Rattle.protocol.proofs.IndexPolynomials.{K-size, getD_map_append, getD_append_replicate}
use Rattle.protocol.proofs.MatrixPolynomials.{sizeK}
use Rattle.protocol.proofs.MatrixSum.{term, ratio-at-entry, ratio-at-filling}

-- 1 or 0 by a test, times a
times_pick : {q : Prime} (b : Bool) (a : Elem q) → a ⊗ pick b 𝟙 𝟘 ≡ pick b a 𝟘
unfolding pick
times_pick true a = mul_one a
times_pick {q} false a = mul-zero (prime_ring q) a

-- the sum of value × L_row(α) over a matrix's entries in column k
unfoldable pub column_sum : {q : Prime} → Circuit → MatrixName → Elem q → ℕ → Elem q
column_sum {q} c M α k =
    sum_list (prime_ring q)
    (λ e. pick (eqb e.column k) (of e.value ⊗ lagrange c.|R| (element c.|R| e.row) α) 𝟘) (at c.matrices M)

module _ {q : Prime} (Q : Qualifies q) (c : Circuit) (W : WellFormed q.p c) where
  -- a function's polynomial from its values
  agreeing-values :
      (n : ℕ) (s : is_size n ≡ true) (F : Elem q → Elem q) (f : ℕ → Elem q) → ((i : ℕ) → i < n → F (element n i) ≡ f i)
      → agreeing n F ≡ interpolate n (tabulate n f)
  agreeing-values n s F f h =
      interpolate-unique Q n s (agreeing n F) (tabulate n f) (length-agreeing n F)
      (λ i l. eval-agreeing Q n s F i l ∙ h i l ∙ sym (get_d_tabulate n i f 𝟘 l))

  -- ẑ_M interpolates the rows' sums of z, where z are the values of ẑ on C
  pub image_by_rows :
      (M : MatrixName) (ẑ : Poly q) (z : List (Elem q)) → values_on c.|C| ẑ ≡ z
      → agreeing c.|R| (image c ẑ M) ≡ interpolate c.|R| (tabulate c.|R| (row_sum c M z))
  image_by_rows M ẑ z e =
      agreeing-values c.|R| W.R-size (image c ẑ M) (row_sum c M z)
      (λ i l. image_on_rows Q c W M ẑ i l ∙ ap (λ v. row_sum c M v i) e)

  extension_on_columns : (M : MatrixName) (α : Elem q) (k : ℕ) → k < c.|C| → extension c M α (element c.|C| k) ≡ column_sum c M α k
  unfolding extension column_sum
  extension_on_columns M α k l =
      sum_list_ext (prime_ring q) _ _ (at c.matrices M)
      (all_map (λ e f.
      let a : Elem q = of e.value ⊗ lagrange c.|R| (element c.|R| e.row) α in
      ap (λ v. a ⊗ v) (lagrange_on Q c.|C| W.C-size e.column k f.column-below l) ∙ times_pick (eqb e.column k) a)
      (at c.matrices M) (W.fit M))

  -- Σ η_M M̂(α,Y) interpolates the weighted columns' sums
  pub weighted_by_columns :
      (α : Elem q) (η : Three (Elem q))
      → agreeing c.|C| (λ y. weighted η (values c α y))
      ≡ interpolate c.|C| (tabulate c.|C| (λ k. weighted η (each (λ M. column_sum c M α k))))
  unfolding values
  weighted_by_columns α η =
      agreeing-values c.|C| W.C-size (λ y. weighted η (values c α y)) (λ k. weighted η (each (λ M. column_sum c M α k)))
      (λ k l. λ i. weighted η (record {
        a = extension_on_columns A α k l i;
        b = extension_on_columns B α k l i;
        c = extension_on_columns C α k l i;
      }))

  -- a_M/b_M on K_M: the entries' terms of M̂(α,β), and 0 after them
  pub ratio_by_entries :
      (α β : Elem q) → (α-outside : Outside c.|R| α) (β-outside : Outside c.|C| β) (M : MatrixName)
      → ratio c α β M
      ≡ interpolate (sizeK c M)
      (map (term Q c W α β α-outside β-outside M) (at c.matrices M) ++ replicate (sizeK c M - length (at c.matrices M)) 𝟘)
  unfolding ratio
  ratio_by_entries α β α-outside β-outside M =
      let k : ℕ = sizeK c M in
      let entries : List Entry = at c.matrices M in
      let F : Elem q → Elem q = λ y. eval (numerator c α β M) y ⊘ eval (denominator c α β M) y in
      let terms : List (Elem q) = map (term Q c W α β α-outside β-outside M) entries in
      let same : length terms ≡ length entries = length-map entries (term Q c W α β α-outside β-outside M) in
      interpolate-unique Q k (K-size c M) (agreeing k F) _ (length-agreeing k F)
      (λ i l. eval-agreeing Q k (K-size c M) F i l ∙ elim (dec_lt i (length entries)) [
        | yes below ↦ ratio-at-entry Q c W α β α-outside β-outside M i below ∙ sym (getD_map_append (term Q c W α β α-outside β-outside M) entries _ i _ 𝟘 below)
        | no past ↦
            ratio-at-filling Q c W α β α-outside β-outside M i (omega arith) l
            ∙ sym (ap (λ n. get_or (terms ++ replicate (k - n) 𝟘) i 𝟘) (sym same)
            ∙ getD_append_replicate terms k i 𝟘 𝟘 (omega (arith, same)) l)
      ])
