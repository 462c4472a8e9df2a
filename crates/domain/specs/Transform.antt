-- The transform by halves on the domains, from coefficients to values and from values to coefficients (document 02, request 6: "Add it in
-- both ways, from values to coefficients and back, for all eleven sizes"). A size is given as 2^k. Assumes nothing.
use Rattle.std.specs.Prelude.{List, ℕ, ◌-◌, ◌^◌}
use Rattle.algebra.specs.Halving.{transform}
use Rattle.field.specs.Prime.{Prime}
use Rattle.field.specs.Element.{Elem, of}
use Rattle.field.specs.Power.{reciprocal}
use Rattle.field.proofs.ElementLaws.{prime_ring}
use Rattle.domain.specs.Domain.{root, element}
use Rattle.domain.specs.Polynomial.{Poly, ◌·◌}

module _ {q : Prime} where
  -- with the powers of the root g
  unfoldable pub to_values : ℕ → Poly q → List (Elem q)
  to_values k f = transform (prime_ring q) k (root (2 ^ k)) f

  -- with the powers of 1/g, which is the last element g^(n-1), and each value divided by n
  unfoldable pub to_coefficients : ℕ → List (Elem q) → Poly q
  to_coefficients k vs = transform (prime_ring q) k (element (2 ^ k) (2 ^ k - 1)) (reciprocal (of (2 ^ k)) · vs)
