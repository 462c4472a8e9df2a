-- What the loop of `poly::add_scaled` keeps. Assumes nothing.
use Rattle.std.proofs.Common.{◌≡◌, ap, ap₂, ◌∙◌, List, map, ℕ, get_or}
use Rattle.field.specs.Prime.{Prime}
use Rattle.field.specs.Element.{Elem, of, 𝟘, ◌⊕◌, ◌⊗◌, words}
use Rattle.field.proofs.ElementLaws.{prime_ring}
use Rattle.domain.specs.Polynomial.{Poly, ◌⊞◌, ◌·◌}
use Rattle.poly.proofs.Stores.{joined}
use Rattle.poly.proofs.Coefficients.{coefficient_add, coefficient_scale}
use Rattle.poly.proofs.WordLists.{element-at, made_at}
use Rattle.poly.proofs.add_scaled.Given as goal

-- what the slice is to hold, and its entries
module _ (q : Prime) (f : List ℕ) (k : ℕ) (g : List ℕ) where
  abbrev pub sum_of : Poly q
  sum_of = map of f ⊞ of k · map of g

  pub sum-at : (i : ℕ) → (of (get_or f i 0) ⊕ of {q = q} k ⊗ of (get_or g i 0)).word ≡ get_or (words sum_of) i 0
  sum-at i =
      made_at sum_of i (ap₂ (λ (x y : Elem q). (x ⊕ of k ⊗ y).word) (element-at f i) (element-at g i))
      (coefficient_add (prime_ring q) (map of f) (of k · map of g) i
      ∙ ap (λ (x : Elem q). get_or (map of f) i 𝟘 ⊕ x) (coefficient_scale (prime_ring q) (of k) (map of g) i))

abbrev pub invariant-loop-i : goal.invariant-loop-i
invariant-loop-i l =
    (q : Prime) → q.p ≡ l.p → l.f ≡ joined (words (sum_of q l.initial.f l.k l.g)) l.initial.f l.i
