-- The laws of values over lists of words, with the sizes under the names that the code has for them. Assumes nothing.
use mathlib.Core.Path.{◌≡◌, sym, ap, ap₂, ◌∙◌, subst}
use mathlib.Core.List.{List, map}
use Prim.Native.Nat.{ℕ, ◌<◌}
use lib.ListN.{get_or}
use Rattle.algebra.specs.Lists.{tabulate}
use Rattle.algebra.proofs.ListLaws.{tabulate_ext}
use Rattle.algebra.proofs.PolynomialLaws.{get_d_tabulate}
use Rattle.field.specs.Prime.{Prime}
use Rattle.field.specs.Element.{Elem, of, 𝟘, ◌⊕◌, ◌⊗◌, ◌⊖◌}
use Rattle.domain.specs.Domain.{vanishing}
use Rattle.domain.specs.Polynomial.{Poly, eval, ◌⊞◌, remainder, interpolate, values_on}
use Rattle.domain.specs.Qualifies.{Qualifies}
use Rattle.protocol.specs.Three.{A, B, Three}
use Rattle.protocol.specs.Circuit.{Circuit, row_sum}
use Rattle.protocol.specs.Messages.{row_quotient, line, line_quotient}
use Rattle.protocol.proofs.AdmissionLaws.{WellFormed}
use Rattle.poly.proofs.WordLists.{element-at}
use Rattle.openings.specs.LineGiven.{Weighed}
use Rattle.openings.proofs.ValueLaws.{weight, row-quotient-value, line-remainder, line-quotient-value}

module _ {q : Prime} where
  -- a word of a list that a rule made
  made_word : (n : ℕ) (l : List ℕ) (f : ℕ → Elem q) → map of l ≡ tabulate n f → (i : ℕ) → i < n → of (get_or l i 0) ≡ f i
  made_word n l f made i below = element-at l i ∙ ap (λ (v : List (Elem q)). get_or v i 𝟘) made ∙ get_d_tabulate n i f 𝟘 below

  -- the products of two lists
  abbrev pub products_of : ℕ → List ℕ → List ℕ → List (Elem q)
  products_of n left right = tabulate n (λ i. of (get_or left i 0) ⊗ of (get_or right i 0))

module _ {q : Prime} (Q : Qualifies q) (k : Circuit) (W : WellFormed q.p k) where
  -- h0(α), from the rows' sums in words
  pub row-quotient_made :
      {r : ℕ} → k.|R| ≡ r → (ẑ : Poly q) (z : List (Elem q)) → values_on k.|C| ẑ ≡ z → (left right : List ℕ)
      → map of left ≡ tabulate r (row_sum k A z) → map of right ≡ tabulate r (row_sum k B z) → (α : Elem q)
      → eval (interpolate r (map of left)) α ⊗ eval (interpolate r (map of right)) α ⊖ eval (interpolate r (products_of r left right)) α
      ≡ eval (row_quotient k ẑ) α ⊗ vanishing r α
  row-quotient_made {r} eR ẑ z on left right made-left made-right α =
      ap₂ (λ u v. u ⊖ v)
      (ap₂ (λ f g. eval (interpolate r f) α ⊗ eval (interpolate r g) α) made-left made-right)
      (ap (λ f. eval (interpolate r f) α)
      (tabulate_ext r _ _ (λ i below.
      ap₂ ◌⊗◌ (made_word r left (row_sum k A z) made-left i below) (made_word r right (row_sum k B z) made-right i below))))
      ∙ subst
      (λ (r : ℕ). eval (interpolate r (tabulate r (row_sum k A z))) α ⊗ eval (interpolate r (tabulate r (row_sum k B z))) α
      ⊖ eval (interpolate r (tabulate r (λ i. row_sum k A z i ⊗ row_sum k B z i))) α ≡ eval (row_quotient k ẑ) α ⊗ vanishing r α)
      eR (row-quotient-value Q k W ẑ z on α)

  module _ {c : ℕ} (eC : k.|C| ≡ c) (m ẑ : Poly q) (z : List ℕ) (on : values_on k.|C| ẑ ≡ map of z) (α : Elem q) (η : Three (Elem q))
      (weights : List ℕ) (made : Weighed k α η weights) where
    -- the line's remainder, from the weights in words
    pub line-rest_made : remainder c m ⊞ interpolate c (products_of c weights z) ≡ remainder k.|C| (line k m ẑ α η)
    line-rest_made =
        ap (λ (n : ℕ). remainder n m ⊞ interpolate n (products_of n weights z)) (sym eC)
        ∙ ap (λ f. remainder k.|C| m ⊞ interpolate k.|C| f)
        (tabulate_ext k.|C| _ _ (λ j below. ap₂ ◌⊗◌ (made_word k.|C| weights (weight Q k W α η) made j below) (element-at z j)))
        ∙ sym (line-remainder Q k W m ẑ (map of z) on α η)

    -- h1(β)
    pub line-quotient_made : (β : Elem q)
        → eval (interpolate c (map of weights)) β ⊗ eval ẑ β ⊕ eval m β ⊖ eval (remainder k.|C| (line k m ẑ α η)) β
        ≡ eval (line_quotient k (line k m ẑ α η)) β ⊗ vanishing c β
    line-quotient_made β =
        let rest : Elem q = eval (remainder k.|C| (line k m ẑ α η)) β in
        ap (λ (n : ℕ). eval (interpolate n (map of weights)) β ⊗ eval ẑ β ⊕ eval m β ⊖ rest) (sym eC)
        ∙ ap (λ f. eval (interpolate k.|C| f) β ⊗ eval ẑ β ⊕ eval m β ⊖ rest) made
        ∙ line-quotient-value Q k W m ẑ (map of z) on α η β
        ∙ ap (λ (n : ℕ). eval (line_quotient k (line k m ẑ α η)) β ⊗ vanishing n β) eC
