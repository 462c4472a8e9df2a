-- What the code answers about an inverse, as an option of the definitions. Assumes nothing.
use Rattle.std.proofs.Math.Option as definition
use Rattle.std.specs.Prelude.{ℕ, Option, Some, None}

abbrev pub inverse_meaning : Option ℕ → definition.Option ℕ
inverse_meaning None = definition.none
inverse_meaning (Some w) = definition.some w
