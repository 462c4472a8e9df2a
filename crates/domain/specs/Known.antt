-- The primes that the code knows by their value, with the table of their roots, and words that are outside their domains.
-- Assumes nothing.
use Rattle.std.specs.Prelude.{◌≡◌, ℕ, ◌<◌}
use Rattle.field.specs.Prime.{Prime}
use Rattle.field.specs.Element.{of}
use Rattle.domain.specs.Domain.{Outside}
use Rattle.domain.specs.BabyBear.{baby_bear}

-- q is the module's prime, and p its value
pub record Known (q : Prime) (p : ℕ) : Type 0 where
  pub is_module : q ≡ baby_bear
  pub value : q.p ≡ p

-- a prime that the code knows by its value p
pub record KnownPrime (p : ℕ) : Type 0 where
  pub prime : Prime
  pub known : Known prime p

-- p is the value of such a prime; above 1, as all of them are
abbrev pub Modulus : ℕ → Type 0
Modulus p = (1 < p) × KnownPrime p

-- y is outside the prime's domain of size n
pub record OutsideDomain (p n y : ℕ) : Type 0 where
  pub over : KnownPrime p
  pub is-outside : Outside n (of {q = over.prime} y)
