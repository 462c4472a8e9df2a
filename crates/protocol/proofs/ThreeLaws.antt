-- What stands at a matrix's place in a triple that is made. Assumes nothing.
use mathlib.Core.Path.{◌≡◌, refl}
use Rattle.protocol.specs.Three.{MatrixName, A, B, C, at, each}

pub at_each : {T : Type 0} (f : MatrixName → T) (M : MatrixName) → at (each f) M ≡ f M
at_each f A = refl
at_each f B = refl
at_each f C = refl
