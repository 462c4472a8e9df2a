-- A polynomial's value at a point beside that of all its coefficients but the constant. Assumes nothing.
use Rattle.std.specs.Prelude.{◌≡◌}
use mathlib.Core.List.{tail}
use Rattle.field.specs.Prime.{Prime}
use Rattle.field.specs.Element.{Elem}
use Rattle.domain.specs.Polynomial.{Poly, eval}
use Rattle.openings.specs.declared.values.Parted.{Parted}

pub record IsParted (q : Prime) (f : Poly q) (y : Elem q) (v : Parted) : Type 0 where
  pub whole : v.whole ≡ (eval f y).word
  pub rest : v.rest ≡ (eval (tail f) y).word
