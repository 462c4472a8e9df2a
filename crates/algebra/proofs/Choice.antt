-- A choice whose test is known. Assumes nothing.
use mathlib.Core.Path.{◌≡◌, ap}
use mathlib.Core.Bool.{Bool, true, false}
use Rattle.algebra.specs.Lists.{pick}

pub pick_true : {T : Type 0} {test : Bool} (a b : T) → test ≡ true → pick test a b ≡ a
unfolding pick
pick_true a b e = ap (λ test. pick test a b) e

pub pick-false : {T : Type 0} {test : Bool} (a b : T) → test ≡ false → pick test a b ≡ b
unfolding pick
pick-false a b e = ap (λ test. pick test a b) e
