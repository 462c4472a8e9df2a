-- How many entries a list of words holds. Assumes nothing.
use mathlib.Core.Path.{◌≡◌, refl}
use mathlib.Core.List.{List, [], ◌∷◌}
use Prim.Native.Nat.{ℕ, ◌/◌}
use native.Mathlib.Omega.{arith}
use lib.ListN.{length}
use Rattle.protocol.specs.Calls.{entries_of}

pub length-entries_of : (l : List ℕ) → length (entries_of l) ≡ length l / 3
unfolding entries_of
length-entries_of [] = refl
length-entries_of (i ∷ []) = refl
length-entries_of (i ∷ (k ∷ [])) = refl
length-entries_of (i ∷ (k ∷ (v ∷ l))) = omega (arith, length-entries_of l)
