-- What the transform by halves reads: tables of powers, with the quotients that prepare products by them, and words of the input that stand
-- a step apart. Assumes nothing.
use Rattle.std.specs.Prelude.{◌≡◌, List, ℕ, zero, suc, ◌+◌, ◌-◌, ◌*◌, ◌/◌, ◌^◌, ◌≤◌, ◌<◌, length, get_or}
use Rattle.algebra.specs.Lists.{tabulate}
use Rattle.algebra.specs.Ring.{pow}
use Rattle.field.specs.Prime.{Prime}
use Rattle.field.specs.Element.{Elem, of, ◌⊗◌}
use Rattle.field.proofs.ElementLaws.{prime_ring}
use Rattle.domain.specs.Domain.{root, element}

module _ {q : Prime} where
  -- the h words from place h on are those of 1, w, w², ..
  abbrev pub LevelOf : ℕ → Elem q → List ℕ → Type 0
  LevelOf h w powers = (i : ℕ) → i < h → get_or powers (h + i) 0 ≡ (pow (prime_ring q) w i).word

  -- a level for each halving of a list of length 2^k: 2^(k-1) powers of w, before them 2^(k-2) of w², and so on down to one
  abbrev pub Levels : ℕ → Elem q → List ℕ → Type 0
  Levels zero w powers = Unit {0}
  Levels (suc k) w powers = LevelOf (2 ^ k) w powers × Levels k (w ⊗ w) powers

  -- the words at the n places from, from + step, .., each times the factor
  abbrev pub spread : ℕ → List ℕ → ℕ → ℕ → ℕ → List (Elem q)
  spread factor input from step n = tabulate n (λ i. of factor ⊗ of (get_or input (from + step * i) 0))

-- each word below p with its prepared quotient
abbrev pub Prepared : ℕ → List ℕ → List ℕ → Type 0
Prepared p powers quotients = (i : ℕ) → i < length powers → get_or powers i 0 < p → get_or quotients i 0 ≡ get_or powers i 0 * 4294967296 / p

-- below the middle each place of the second list but the first holds what stands at twice its place, and from the middle on the first list
-- stands unchanged
pub record Folded (before after : List ℕ) : Type 0 where
  pub doubled : (i : ℕ) → 0 < i → i < length before / 2 → get_or after i 0 ≡ get_or after (i + i) 0
  pub kept : (i : ℕ) → length before / 2 ≤ i → get_or after i 0 ≡ get_or before i 0

-- the tables of a transform of length 2^k with the powers of w
pub record Tables (q : Prime) (k : ℕ) (w : Elem q) (powers quotients : List ℕ) : Type 0 where
  pub levels : Levels k w powers
  pub prepared : Prepared q.p powers quotients

-- those for the values on the domain of size n, and for the coefficients from these: with the powers of g_n and of 1/g_n
abbrev pub ValueTables : Prime → ℕ → List ℕ → List ℕ → Type 0
ValueTables q n powers quotients = (k : ℕ) → n ≡ 2 ^ k → Tables q k (root n) powers quotients

abbrev pub CoefficientTables : Prime → ℕ → List ℕ → List ℕ → Type 0
CoefficientTables q n powers quotients = (k : ℕ) → n ≡ 2 ^ k → Tables q k (element n (n - 1)) powers quotients
