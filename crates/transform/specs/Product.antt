-- A product of two polynomials f and g, given by their values on a domain, divided by v_D; and elements that take the domain to a coset.
-- Assumes nothing.
use Rattle.std.specs.Prelude.{◌≡◌, ◌≢◌, List, map, ℕ, length}
use Rattle.field.specs.Prime.{Prime}
use Rattle.field.specs.Element.{Elem, of, 𝟘, words}
use Rattle.domain.specs.Domain.{Outside}
use Rattle.domain.specs.Polynomial.{◌⊠◌, quotient, remainder, interpolate}

-- s takes the domain of size n to a coset apart from it
pub record Shift {q : Prime} (n : ℕ) (s : Elem q) : Type 0 where
  pub not-zero : s ≢ 𝟘
  pub outside : Outside n s

-- with left and right the values of f and g: the coefficients of f, and the remainder and the quotient of f·g
pub record ProductDivided (q : Prime) (left right factor rest out : List ℕ) : Type 0 where
  pub is_factor : factor ≡ words (interpolate (length left) (map (of {q = q}) left))
  pub is-rest : rest
      ≡ words (remainder (length left) (interpolate (length left) (map (of {q = q}) left) ⊠ interpolate (length left) (map of right)))
  pub is-quotient : out
      ≡ words (quotient (length left) (interpolate (length left) (map (of {q = q}) left) ⊠ interpolate (length left) (map of right)))
