-- h_M as the code makes it: b_M from its values on K_M, and h_M as minus the quotient of b_M·(a_M/b_M), since a_M is no longer than |K_M|.
-- Assumes nothing.
use mathlib.Core.Path.{◌≡◌, refl, sym, ap, ap₂, ◌∙◌}
use mathlib.Core.List.{List, [], ◌∷◌}
use Prim.Native.Nat.{ℕ, ◌<◌}
use native.Mathlib.Omega.{arith}
use lib.ListN.{length, get_or}
use Rattle.algebra.specs.Lists.{tabulate}
use Rattle.algebra.proofs.PolynomialLaws.{get_d_tabulate}
use Rattle.algebra.proofs.Solver.{◌:-◌, ◌:*◌, :-◌, :0, :1, ◌:=◌, ring}
use Rattle.field.specs.Prime.{Prime}
use Rattle.field.specs.Element.{Elem, of, 𝟘, 𝟙, ◌⊗◌, ◌⊖◌, neg}
use Rattle.field.proofs.ElementLaws.{prime_ring}
use Rattle.domain.specs.Domain.{element}
use Rattle.domain.specs.Polynomial.{Poly, eval, ◌·◌, ◌⊠◌, interpolate, quotient}
use Rattle.domain.proofs.Interpolation.{interpolate-unique}
use Rattle.protocol.specs.Three.{MatrixName, at}
use Rattle.protocol.specs.Circuit.{Entry, Circuit}
use Rattle.protocol.specs.Messages.{numerator, denominator, ratio, matrix_quotient}
use Rattle.protocol.proofs.IndexPolynomials.{K-size}
use Rattle.protocol.proofs.MatrixPolynomials.{sizeK, sizeK_positive, length-numerator, length-denominator}
use Rattle.protocol.proofs.MatrixSum.{denominator-at}
use Rattle.circuit.specs.Given.{entry_words}
use Rattle.circuit.proofs.Entries.{entry_or_zeros}
use Rattle.poly.proofs.Coefficients.{quotient-of_multiple}
use Rattle.matrix_sumcheck.specs.MatrixGiven.{Given, Challenged, EntriesWithin, DistanceLists, product_of, size_of}
use Rattle.matrix_sumcheck.proofs.MatrixTerms.{no_entry, given_size, well_formed_at, product_by_rules}

-- minus a times h is a times minus h
pub minus_multiple : {q : Prime} (a : Elem q) (h : Poly q) → (𝟘 ⊖ a) · h ≡ a · (neg 𝟙 · h)
minus_multiple a [] = refl
minus_multiple {q} a (x ∷ h) =
    ap₂ ◌∷◌ (ring (prime_ring q) (a ∷ x ∷ []) (λ a x. (:0 :- a) :* x := a :* ((:- :1) :* x)) tt) (minus_multiple a h)

module _ {q : Prime} {p r c : ℕ} {l : List ℕ} {k : Circuit} {M : MatrixName} (G : Given q p r c l k M) {alpha beta : ℕ}
    (H : Challenged q p k alpha beta) where
  abbrev α : Elem q
  α = of alpha

  abbrev β : Elem q
  β = of beta

  -- |R|(α - row) × |C|(β - col), over m rows and n columns
  abbrev factors : ℕ → ℕ → Entry → Elem q
  factors m n e = of m ⊗ (α ⊖ element m e.row) ⊗ (of n ⊗ (β ⊖ element n e.column))

  module _ {rows columns : List ℕ} (h : EntriesWithin (length rows) (length columns) l)
      (D : DistanceLists q r c alpha beta rows columns) where
    abbrev place : ℕ → Elem q
    place i = product_of rows columns (entry_words l i)

    denominator_place : (i : ℕ) → i < sizeK k M → eval (denominator k α β M) (element (sizeK k M) i) ≡ place i
    denominator_place i below =
        denominator-at G.qualifies k (well_formed_at G H.well_formed) α β H.α-outside H.β-outside M i below
        ∙ ap₂ (λ (m n : ℕ). factors m n (get_or (at k.matrices M) i no_entry)) G.rows G.columns
        ∙ ap (λ (es : List Entry). factors r c (get_or es i no_entry)) G.matrix
        ∙ ap (factors r c) (entry_or_zeros l i h.words.whole)
        ∙ sym (product_by_rules r c (λ i. of r ⊗ (α ⊖ element r i)) (λ i. of c ⊗ (β ⊖ element c i)) h D.by_row D.by_column i)

    -- b_M interpolates the products of the rows' and the columns' distances
    pub denominator_made : (n : ℕ) → n ≡ size_of l → interpolate n (tabulate n place) ≡ denominator k α β M
    denominator_made n e =
        let m : ℕ = sizeK k M in
        ap (λ (n : ℕ). interpolate n (tabulate n place)) (e ∙ sym (given_size G))
        ∙ sym (interpolate-unique G.qualifies m (K-size k M) (denominator k α β M) (tabulate m place) (length-denominator k α β M)
        (λ i below. denominator_place i below ∙ sym (get_d_tabulate m i place 𝟘 below)))

  -- h_M
  pub quotient_made : (n : ℕ) → n ≡ size_of l → neg 𝟙 · quotient n (denominator k α β M ⊠ ratio k α β M) ≡ matrix_quotient k α β M
  unfolding matrix_quotient
  quotient_made n e =
      ap (λ (n : ℕ). neg 𝟙 · quotient n (denominator k α β M ⊠ ratio k α β M)) (e ∙ sym (given_size G))
      ∙ sym (quotient-of_multiple (prime_ring q) (sizeK k M) (sizeK_positive k M) (neg 𝟙) (numerator k α β M)
      (denominator k α β M ⊠ ratio k α β M) (omega (arith, length-numerator k α β M)))
