-- The module's prime, p = 2,013,265,921 = 15 × 2^27 + 1 with generator 31 (document 01, "Field and domains"), known as BabyBear.
-- In the definitions its value stands only here, and in the crates' code only in `MODULE_PRIME` of crate `field`. Assumes nothing.
use Rattle.std.specs.Prelude.{ℕ, ◌%◌, ◌<◌, ◌≡◌}
use Rattle.std.proofs.Common.{lit<}
use Rattle.field.specs.Prime.{Prime}
use Rattle.field.proofs.Primality.{passes, passes-sound}

abbrev value : ℕ
value = 2013265921

-- "That p is prime is proved": by the divisors up to 2^16 + 1, whose square is above p
pub baby_bear-undivided : (d : ℕ) → 1 < d → d < value → value % d ≡ 0 → ⊥
unfolding passes
baby_bear-undivided = passes-sound 16 value tt

abbrev pub baby_bear : Prime
baby_bear = record { p = value; above_two = lit< tt; undivided = baby_bear-undivided; generator = 31 }
