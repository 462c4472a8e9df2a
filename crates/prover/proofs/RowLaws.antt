-- h0 from the products of the rows' sums, and σ_M from the entries in one pass. Assumes nothing.
use mathlib.Core.Path.{◌≡◌, sym, ap, ap₂, ◌∙◌, subst}
use mathlib.Core.List.{List, [], ◌∷◌, ◌++◌}
use Prim.Native.Nat.{ℕ, ◌+◌, ◌≤◌, ◌<◌}
use native.Mathlib.Numerals.{add-one}
use native.Mathlib.Omega.{arith}
use lib.ListN.{length, get_or, take}
use lib.Seq.{take-suc, take_all}
use Rattle.algebra.specs.Counting.{All}
use Rattle.algebra.specs.Lists.{tabulate}
use Rattle.algebra.specs.Sum.{sum_list}
use Rattle.algebra.proofs.Counting.{all_map}
use Rattle.algebra.proofs.Division.{quotient-add-short}
use Rattle.algebra.proofs.PolynomialLaws.{length-scale, length-product, get_d_tabulate}
use Rattle.algebra.proofs.Solver.{◌:*◌, ◌:=◌, ring}
use Rattle.algebra.proofs.SumLaws.{sum_list_ext, sum_list_append}
use Rattle.field.specs.Prime.{Prime}
use Rattle.field.specs.Element.{Elem, of, 𝟘, 𝟙, ◌⊕◌, ◌⊗◌, neg}
use Rattle.field.proofs.ElementLaws.{add_comm, add-zero, prime_ring}
use Rattle.field.proofs.Words.{of-result}
use Rattle.domain.specs.Domain.{element, lagrange}
use Rattle.domain.specs.Polynomial.{Poly, eval, ◌⊟◌, ◌·◌, ◌⊠◌, quotient, values_on, interpolate, agreeing}
use Rattle.domain.specs.Qualifies.{Qualifies}
use Rattle.domain.specs.Known.{Known}
use Rattle.domain.proofs.Interpolation.{getD_values_on, length-interpolate}
use Rattle.domain.proofs.Membership.{zero_word}
use Rattle.domain.proofs.SizeLaws.{size_positive}
use Rattle.protocol.specs.Three.{MatrixName, A, B, C, at}
use Rattle.protocol.specs.Circuit.{Entry, Circuit, row_sum}
use Rattle.protocol.specs.Messages.{image, row_quotient}
use Rattle.protocol.proofs.AdmissionLaws.{WellFormed}
use Rattle.protocol.proofs.Extension.{image_by_entries}
use Rattle.protocol.proofs.ProverForms.{image_by_rows}
use Rattle.circuit.specs.Given.{Within}
use Rattle.prover.specs.EntrySums.{entry_total}

-- what is known by the prime's value holds for the prime
pub known_formed : {q : Prime} {p : ℕ} {k : Circuit} → Known q p → WellFormed p k → WellFormed q.p k
known_formed {q} {p} {k} known = subst (λ (n : ℕ). WellFormed n k) (sym known.value)

-- entries within a matrix whose number of rows has another name
pub rows-within : {n m : ℕ} → n ≡ m → (c : ℕ) (es : List Entry) → All (Within n c) es → All (Within m c) es
rows-within same c es = subst (λ (r : ℕ). All (Within r c) es) same

-- L of each row at α
abbrev pub row_values : {q : Prime} → ℕ → Elem q → List (Elem q)
row_values r α = tabulate r (λ i. lagrange r (element r i) α)

-- the word s is the sum over the first i entries
module _ (q : Prime) (rows columns : List (Elem q)) (es : List Entry) where
  abbrev pub Totalled : ℕ → ℕ → Type 0
  Totalled s i = s ≡ (entry_total rows columns (take i es)).word

  pub total-none : Totalled 0 0
  unfolding entry_total
  total-none = sym (zero_word q)

  pub total_turn : (s i r : ℕ) (e : Entry) → i < length es → get_or es i e ≡ e
      → r ≡ (of e.value ⊗ get_or rows e.row 𝟘 ⊗ get_or columns e.column 𝟘 ⊕ of s).word → Totalled s i → Totalled r (i + 1)
  unfolding entry_total
  total_turn s i r e within here made before =
      let f : Entry → Elem q = λ e. of e.value ⊗ get_or rows e.row 𝟘 ⊗ get_or columns e.column 𝟘 in
      let more : take (i + 1) es ≡ take i es ++ (e ∷ []) =
      ap (λ (n : ℕ). take n es) (add-one i) ∙ take-suc es i e within ∙ ap (λ d. take i es ++ (d ∷ [])) here in
      made
      ∙ ap (λ (x : Elem q). x.word)
      (add_comm (f e) (of s) ∙ ap₂ ◌⊕◌ (of-result _ before) (sym (add-zero (f e)))
      ∙ sym (ap (sum_list (prime_ring q) f) more ∙ sum_list_append (prime_ring q) f (take i es) (e ∷ [])))

  pub total_end : (s i : ℕ) → length es ≤ i → Totalled s i → s ≡ (entry_total rows columns es).word
  total_end s i past before = before ∙ ap (λ l. (entry_total rows columns l).word) (take_all i es past)

module _ (q : Prime) (Q : Qualifies q) (k : Circuit) (W : WellFormed q.p k) {r : ℕ} (eR : k.|R| ≡ r) (ẑ : Poly q) (z : List (Elem q))
    (values : values_on k.|C| ẑ ≡ z) where
  -- ẑ_M from the rows' sums
  abbrev image_poly : MatrixName → Poly q
  image_poly M = interpolate r (tabulate r (row_sum k M z))

  image_agrees : (M : MatrixName) → image_poly M ≡ agreeing k.|R| (image k ẑ M)
  image_agrees M = (λ t. interpolate (sym eR t) (tabulate (sym eR t) (row_sum k M z))) ∙ sym (image_by_rows Q k W M ẑ z values)

  -- ẑ_C, of length |R|, does not change the quotient of ẑ_A·ẑ_B
  pub row-quotient_made : quotient r (image_poly A ⊠ image_poly B) ≡ row_quotient k ẑ
  unfolding row_quotient
  row-quotient_made =
      let l : (M : MatrixName) → length (image_poly M) ≡ r = λ M. length-interpolate r (tabulate r (row_sum k M z)) in
      let above : 0 < r = omega (arith, size_positive k.|R| W.R-size) in
      let product = length-product (prime_ring q) (image_poly A) (image_poly B) (omega (arith, l A)) (omega (arith, l B)) in
      sym (quotient-add-short (prime_ring q) r (image_poly A ⊠ image_poly B) (neg 𝟙 · image_poly C)
      (omega (arith, length-scale (prime_ring q) (neg 𝟙) (image_poly C), l C)) (omega (arith, product, l A, l B)))
      ∙ (λ t. quotient (sym eR t) (image_agrees A t ⊠ image_agrees B t ⊟ image_agrees C t))

  pub row-sum_made : (M : MatrixName) {es : List Entry} → at k.matrices M ≡ es → (α : Elem q)
      → entry_total (row_values r α) z es ≡ image k ẑ M α
  unfolding entry_total
  row-sum_made M {es} same α =
      ap (entry_total (row_values r α) z) (sym same)
      ∙ sum_list_ext (prime_ring q) _ _ (at k.matrices M) (all_map (λ e fits.
      let row : get_or (row_values r α) e.row 𝟘 ≡ lagrange k.|R| (element k.|R| e.row) α =
      get_d_tabulate r e.row (λ i. lagrange r (element r i) α) 𝟘 (omega (arith, fits.row_below))
      ∙ (λ t. lagrange (sym eR t) (element (sym eR t) e.row) α) in
      let column : get_or z e.column 𝟘 ≡ eval ẑ (element k.|C| e.column) =
      ap (λ (l : List (Elem q)). get_or l e.column 𝟘) (sym values) ∙ getD_values_on k.|C| e.column ẑ fits.column-below in
      ap₂ (λ x y. of e.value ⊗ x ⊗ y) row column
      ∙ ring (prime_ring q) (of e.value ∷ lagrange k.|R| (element k.|R| e.row) α ∷ eval ẑ (element k.|C| e.column) ∷ [])
      (λ v r z. v :* r :* z := v :* z :* r) tt) (at k.matrices M) (W.fit M))
      ∙ sym (image_by_entries Q k W M ẑ α)
