-- h2 in the order in which the code adds it up: from |K| - 1 zeros, one matrix's multiple after the other. Assumes nothing.
use mathlib.Core.Path.{◌≡◌, sym, ap, ap₂, ◌∙◌}
use mathlib.Core.Bool.{true}
use mathlib.Core.List.{List}
use Prim.Native.Nat.{ℕ, ◌+◌, ◌≤◌, max}
use native.Mathlib.Omega.{arith}
use lib.ListN.{length, get_or, replicate, length-replicate}
use Rattle.algebra.specs.Ring.{CommRing}
use Rattle.algebra.proofs.PolynomialLaws.{length-add, length-scale}
use Rattle.algebra.proofs.RingLaws.{zero-add}
use Rattle.field.specs.Prime.{Prime}
use Rattle.field.specs.Element.{Elem, of, 𝟘, ◌⊕◌, ◌⊗◌}
use Rattle.field.specs.Power.{◌⊘◌}
use Rattle.field.proofs.ElementLaws.{prime_ring}
use Rattle.domain.specs.Size.{is_size}
use Rattle.domain.specs.Polynomial.{Poly, ◌⊞◌, ◌·◌}
use Rattle.domain.proofs.SizeLaws.{largest-is_size, size_for_is_size}
use Rattle.domain.proofs.ListLaws.{equal-entries}
use Rattle.protocol.specs.Three.{MatrixName, A, B, C, Three, at, map_three}
use Rattle.protocol.specs.Circuit.{Circuit, sizes_of, largest}
use Rattle.protocol.specs.Messages.{lengths, matrix_quotient, joined_quotient}
use Rattle.protocol.specs.Calls.{entries_of}
use Rattle.protocol.proofs.MatrixPolynomials.{within-largest}
use Rattle.protocol.proofs.MatrixCheck.{matrix-length, length-matrix_quotient}
use Rattle.protocol.proofs.JoinedRule.{length-joined_quotient}
use Rattle.poly.proofs.Coefficients.{coefficient_add}
use Rattle.matrix_sumcheck.specs.MatrixGiven.{Given, Challenged, lists, size_of}
use Rattle.poly.proofs.WordLists.{replicate-at}
use Rattle.matrix_sumcheck.proofs.MatrixTerms.{given_size, well_formed_at}

module _ {q : Prime} where
  abbrev R : CommRing (Elem q)
  R = prime_ring q

  -- zeros, then three polynomials that are not longer
  sum_from_zeros : (n : ℕ) (a b c : Poly q) → length a ≤ n → length b ≤ n → length c ≤ n → length (a ⊞ b ⊞ c) ≡ n
      → replicate n 𝟘 ⊞ a ⊞ b ⊞ c ≡ a ⊞ b ⊞ c
  sum_from_zeros n a b c a-fits b-fits c-fits long =
      let zeros : Poly q = replicate n 𝟘 in
      equal-entries 𝟘 _ (a ⊞ b ⊞ c)
      (omega (
        arith,
        length-add R (zeros ⊞ a ⊞ b) c,
        length-add R (zeros ⊞ a) b,
        length-add R zeros a,
        length-replicate n (𝟘 {q = q}),
      ))
      (λ i _.
      coefficient_add R (zeros ⊞ a ⊞ b) c i
      ∙ ap (λ x. x ⊕ get_or c i 𝟘)
      (coefficient_add R (zeros ⊞ a) b i
      ∙ ap (λ x. x ⊕ get_or b i 𝟘)
      (coefficient_add R zeros a i ∙ ap (λ x. x ⊕ get_or a i 𝟘) (replicate-at 𝟘 n i) ∙ zero-add R (get_or a i 𝟘))
      ∙ sym (coefficient_add R a b i))
      ∙ sym (coefficient_add R (a ⊞ b) c i))

-- |K| of three lists of entries
abbrev pub largest_of : List ℕ → List ℕ → List ℕ → ℕ
largest_of ea eb ec = largest (map_three size_of (lists ea eb ec))

is_size_lem : (l : List ℕ) → is_size (size_of l) ≡ true
is_size_lem l = size_for_is_size (length (entries_of l))

-- δ_M (|K_M|/|K|) h_M, where |K| is z + 1
abbrev pub joined_term : {q : Prime} → Three (List ℕ) → Circuit → Elem q → Elem q → Three (Elem q) → ℕ → MatrixName → Poly q
joined_term ls k α β δ z M = at δ M ⊗ (of (size_of (at ls M)) ⊘ of (z + 1)) · matrix_quotient k α β M

module _ (ea eb ec : List ℕ) (n : ℕ) (e : n + 1 ≡ largest_of ea eb ec) where
  pub joined-fits : (size_of ea ≤ n + 1) × (size_of eb ≤ n + 1) × (size_of ec ≤ n + 1) × (is_size (n + 1) ≡ true)
  unfolding largest
  joined-fits = (
    omega arith,
    omega arith,
    omega arith,
    ap is_size e ∙ largest-is_size (size_of ea) (size_of eb) (size_of ec) (is_size_lem ea) (is_size_lem eb) (is_size_lem ec),
  )

  module _ {q : Prime} {p r c : ℕ} {k : Circuit} (G : (M : MatrixName) → Given q p r c (at (lists ea eb ec) M) k M) where
    -- |K|
    given-largest : largest (sizes_of k).|K| ≡ n + 1
    unfolding largest
    given-largest = ap₂ max (given_size (G A)) (ap₂ max (given_size (G B)) (given_size (G C))) ∙ sym e

    module _ (alpha beta : ℕ) (H : Challenged q p k alpha beta) (δ : Three (Elem q)) where
      abbrev α : Elem q
      α = of alpha

      abbrev β : Elem q
      β = of beta

      abbrev made : MatrixName → Poly q
      made = joined_term (lists ea eb ec) k α β δ n

      abbrev stated : MatrixName → Poly q
      stated M = at δ M ⊗ (of (at (sizes_of k).|K| M) ⊘ of (largest (sizes_of k).|K|)) · matrix_quotient k α β M

      same_term : (M : MatrixName) → made M ≡ stated M
      same_term M = sym (ap₂ (λ x y. at δ M ⊗ (of x ⊘ of y) · matrix_quotient k α β M) (given_size (G M)) given-largest)

      fits : (M : MatrixName) → length (stated M) ≤ n
      fits M =
          omega (
            arith,
            length-scale (prime_ring q) (at δ M ⊗ (of (at (sizes_of k).|K| M) ⊘ of (largest (sizes_of k).|K|))) (matrix_quotient k α β M),
            length-matrix_quotient (G A).qualifies k (well_formed_at (G A) H.well_formed) α β H.α-outside H.β-outside M,
            matrix-length (sizes_of k) M,
            within-largest k M,
            given-largest,
          )

      long : length (joined_quotient k α β δ) ≡ n
      unfolding lengths
      long =
          let W = well_formed_at (G A) H.well_formed in
          omega (arith, length-joined_quotient (G A).qualifies k W α β H.α-outside H.β-outside δ, given-largest)

      pub joined_made : replicate n 𝟘 ⊞ made A ⊞ made B ⊞ made C ≡ joined_quotient k α β δ
      unfolding joined_quotient
      joined_made =
          ap₂ ◌⊞◌ (ap₂ (λ x y. replicate n 𝟘 ⊞ x ⊞ y) (same_term A) (same_term B)) (same_term C)
          ∙ sum_from_zeros n (stated A) (stated B) (stated C) (fits A) (fits B) (fits C) long
