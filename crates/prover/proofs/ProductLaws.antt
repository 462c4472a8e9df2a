-- A product divided by v_D, where its factors' values are known by other names. Assumes nothing.
use mathlib.Core.Path.{◌≡◌, ◌∙◌}
use mathlib.Core.List.{List, map}
use Prim.Native.Nat.{ℕ}
use lib.ListN.{length}
use Rattle.field.specs.Prime.{Prime}
use Rattle.field.specs.Element.{Elem, of, words}
use Rattle.domain.specs.Polynomial.{◌⊠◌, quotient, remainder, interpolate}
use Rattle.transform.specs.Product.{ProductDivided}

module _ {q : Prime} {left right factor rest out : List ℕ} (D : ProductDivided q left right factor rest out)
    {n : ℕ} {f g : List (Elem q)} (size : length left ≡ n) (is-left : map of left ≡ f) (is_right : map of right ≡ g) where
  pub factor_made : factor ≡ words (interpolate n f)
  factor_made = D.is_factor ∙ (λ t. words (interpolate (size t) (is-left t)))

  pub rest_made : rest ≡ words (remainder n (interpolate n f ⊠ interpolate n g))
  rest_made = D.is-rest ∙ (λ t. words (remainder (size t) (interpolate (size t) (is-left t) ⊠ interpolate (size t) (is_right t))))

  pub quotient_made : out ≡ words (quotient n (interpolate n f ⊠ interpolate n g))
  quotient_made = D.is-quotient ∙ (λ t. words (quotient (size t) (interpolate (size t) (is-left t) ⊠ interpolate (size t) (is_right t))))
