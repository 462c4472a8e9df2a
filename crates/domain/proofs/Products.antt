-- Products on a domain: on the domain a polynomial and its remainder by v_D have the same values, so the remainder of a product is the
-- interpolation of products of values. Assumes nothing.
use mathlib.Core.Path.{◌≡◌, sym, ap₂, ◌∙◌}
use mathlib.Core.Bool.{true}
use mathlib.Core.List.{List, [], ◌∷◌}
use Prim.Native.Nat.{ℕ, ◌<◌}
use lib.ListN.{get_or}
use Rattle.algebra.specs.Ring.{pow}
use Rattle.algebra.proofs.Solver.{◌:+◌, ◌:-◌, ◌:*◌, :-◌, :1, ◌:=◌, ◌⊙◌, ◌from◌, ring_by}
use Rattle.algebra.proofs.Division.{length-remainder, division}
use Rattle.algebra.proofs.PolynomialLaws.{eval_mul}
use Rattle.field.specs.Prime.{Prime}
use Rattle.field.specs.Element.{Elem, 𝟘, ◌⊗◌}
use Rattle.field.proofs.ElementLaws.{prime_ring}
use Rattle.domain.specs.Size.{is_size}
use Rattle.domain.specs.Domain.{element}
use Rattle.domain.specs.Polynomial.{Poly, eval, ◌⊠◌, quotient, remainder, values_on, interpolate}
use Rattle.domain.specs.Qualifies.{Qualifies}
use Rattle.domain.proofs.SizeLaws.{size_positive}
use Rattle.domain.proofs.DomainLaws.{element-power}
use Rattle.domain.proofs.Interpolation.{getD_values_on, interpolate-unique}

module _ {q : Prime} (Q : Qualifies q) (n : ℕ) (size : is_size n ≡ true) where
  pub eval-remainder : (h : Poly q) (i : ℕ) → eval (remainder n h) (element n i) ≡ eval h (element n i)
  eval-remainder h i = ring_by (prime_ring q)
      (eval h x ∷ eval (quotient n h) x ∷ eval (remainder n h) x ∷ pow (prime_ring q) x n ∷ [])
      (λ h k r p. r := h from ((:- :1) ⊙ (h := k :* (p :- :1) :+ r)) ∷ ((:- k) ⊙ (p := :1)) ∷ [])
      (division (prime_ring q) n h x (size_positive n size), (element-power Q n size i, tt)) tt
    where
      x : Elem q
      x = element n i

  -- the remainder of a product, from the values of its factors
  pub product-remainder : (f g : Poly q) (vs : List (Elem q))
      → ((i : ℕ) → i < n → get_or vs i 𝟘 ≡ get_or (values_on n f) i 𝟘 ⊗ get_or (values_on n g) i 𝟘) → interpolate n vs ≡ remainder n (f ⊠ g)
  product-remainder f g vs e =
      sym (interpolate-unique Q n size (remainder n (f ⊠ g)) vs (length-remainder (prime_ring q) n (f ⊠ g)) (λ i l.
      eval-remainder (f ⊠ g) i ∙ eval_mul (prime_ring q) f g (element n i)
      ∙ sym (e i l ∙ ap₂ (λ (x y : Elem q). x ⊗ y) (getD_values_on n i f l) (getD_values_on n i g l))))
