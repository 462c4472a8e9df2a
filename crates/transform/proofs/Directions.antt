-- What the code's transform gives with the factor that it is called with in each direction. Assumes nothing.
use mathlib.Core.Path.{◌≡◌, ap, ◌∙◌}
use mathlib.Core.List.{List, map}
use Prim.Native.Nat.{ℕ, ◌-◌, ◌^◌, ◌<◌}
use lib.ListN.{length, length-map}
use Rattle.algebra.proofs.PolynomialLaws.{scale_one}
use Rattle.algebra.specs.Halving.{transform}
use Rattle.field.specs.Prime.{Prime}
use Rattle.field.specs.Element.{Elem, of}
use Rattle.field.specs.Power.{reciprocal}
use Rattle.field.proofs.ElementLaws.{prime_ring}
use Rattle.field.proofs.Words.{of-result}
use Rattle.domain.specs.Domain.{root, element}
use Rattle.domain.specs.Polynomial.{◌·◌, values_on, interpolate}
use Rattle.domain.specs.Qualifies.{Qualifies}
use Rattle.domain.specs.Transform.{to_values, to_coefficients}
use Rattle.domain.proofs.TransformLaws.{to_values_agrees, to_coefficients_agrees}

module _ {q : Prime} (Q : Qualifies q) (k : ℕ) (within : k < 11) (input : List ℕ) (size : length input ≡ 2 ^ k) where
  -- with the root and the factor 1
  pub to_values-words : transform (prime_ring q) k (root (2 ^ k)) (of 1 · map of input) ≡ values_on (2 ^ k) (map of input)
  unfolding to_values
  to_values-words =
      ap (transform (prime_ring q) k (root (2 ^ k))) (scale_one (prime_ring q) (map of input))
      ∙ to_values_agrees Q k within (map of input) (length-map input of ∙ size)

  -- with the last power of the root, and the inverse of the size as the factor
  pub to_coefficients-words : (factor : ℕ) → factor ≡ (reciprocal (of {q = q} (2 ^ k))).word
      → transform (prime_ring q) k (element (2 ^ k) (2 ^ k - 1)) (of factor · map of input) ≡ interpolate (2 ^ k) (map of input)
  unfolding to_coefficients
  to_coefficients-words factor is_factor =
      ap (λ (c : Elem q). transform (prime_ring q) k (element (2 ^ k) (2 ^ k - 1)) (c · map of input)) (of-result _ is_factor)
      ∙ to_coefficients_agrees Q k within (map of input) (length-map input of ∙ size)
