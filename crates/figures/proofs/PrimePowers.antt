-- p² and p³ of the module's prime in decimal, by computation. Assumes nothing.
use mathlib.Core.Path.{◌≡◌}
use mathlib.Core.List.{List}
use Prim.Native.Nat.{ℕ, ◌*◌}
use lib.Dec.{lit<}
use Rattle.algebra.specs.Lists.{pick}
use Rattle.domain.specs.BabyBear.{baby_bear}
use Rattle.text.specs.Ascii.{ascii}
use Rattle.text.specs.Decimal.{digits, decimal}
use Rattle.text.proofs.DecimalLaws.{few-digits}

abbrev pub squared : List ℕ
squared = ascii "4053239668659978241"

abbrev pub cubed : List ℕ
cubed = ascii "8160249294558465929206824961"

pub prime_squared : squared ≡ decimal (baby_bear.p * baby_bear.p)
unfolding pick digits
prime_squared = few-digits 18 (baby_bear.p * baby_bear.p) (lit< tt)

pub prime_cubed : cubed ≡ decimal (baby_bear.p * baby_bear.p * baby_bear.p)
unfolding pick digits
prime_cubed = few-digits 27 (baby_bear.p * baby_bear.p * baby_bear.p) (lit< tt)
