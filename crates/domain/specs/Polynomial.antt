-- Polynomials over the field, and their values on a domain (document 01, "Field and domains": "A polynomial is a coefficient
-- list, constant first, of the exact length named below; trailing zeros stay"). Assumes nothing.
use Rattle.std.specs.Prelude.{List, [], ◌∷◌, ◌++◌, map, ℕ, ◌-◌, ◌*◌, get_or, replicate}
use Rattle.algebra.specs.Lists.{tabulate}
use Rattle.algebra.specs.Sum.{sum}
use Rattle.algebra.specs.Polynomial.{Running}
use Rattle.algebra.specs.Polynomial as Coefficients
use Rattle.field.specs.Prime.{Prime}
use Rattle.field.specs.Element.{Elem, of, 𝟘, 𝟙, ◌⊗◌, neg}
use Rattle.field.specs.Power.{◌⊘◌}
use Rattle.field.proofs.ElementLaws.{prime_ring}
use Rattle.domain.specs.Domain.{element, domain}

abbrev pub Poly : Prime → Type 0
Poly q = List (Elem q)

module _ {q : Prime} where
  infixl 75 ◌⊞◌
  infixl 75 ◌⊟◌
  infixr 78 ◌·◌
  infixl 80 ◌⊠◌
  -- f(y)
  abbrev pub eval : Poly q → Elem q → Elem q
  eval = Coefficients.eval (prime_ring q)

  -- evaluation taken up midway, one part after the other, and what it begins with
  abbrev pub eval_part : Running (Elem q) → Elem q → Poly q → Running (Elem q)
  eval_part = Coefficients.eval_part (prime_ring q)

  abbrev pub eval_parts : Running (Elem q) → Elem q → List (Poly q) → Running (Elem q)
  eval_parts = Coefficients.eval_parts (prime_ring q)

  abbrev pub begun : Running (Elem q)
  begun = Coefficients.begun (prime_ring q)

  abbrev pub constant : Elem q → Poly q
  constant a = a ∷ []

  -- f + g, as long as the longer of the two
  abbrev pub ◌⊞◌ : Poly q → Poly q → Poly q
  ◌⊞◌ = Coefficients.add (prime_ring q)

  -- k · f, for an element k
  abbrev pub ◌·◌ : Elem q → Poly q → Poly q
  ◌·◌ = Coefficients.scale (prime_ring q)

  -- f - g
  abbrev pub ◌⊟◌ : Poly q → Poly q → Poly q
  f ⊟ g = f ⊞ neg 𝟙 · g

  -- f × g
  abbrev pub ◌⊠◌ : Poly q → Poly q → Poly q
  ◌⊠◌ = Coefficients.mul (prime_ring q)

  -- the quotient and the remainder by v_D, |D| = n: coefficient i is f_{i+n} + f_{i+2n} + .. and f_i + f_{i+n} + f_{i+2n} + ..
  abbrev pub quotient : ℕ → Poly q → Poly q
  quotient = Coefficients.quotient (prime_ring q)

  abbrev pub remainder : ℕ → Poly q → Poly q
  remainder = Coefficients.remainder (prime_ring q)

  -- v_D as a polynomial of length n + 1: -1, then n - 1 zeros, then 1
  unfoldable pub vanishing_poly : ℕ → Poly q
  vanishing_poly n = neg 𝟙 ∷ (replicate (n - 1) 𝟘 ++ (𝟙 ∷ []))

  -- the values of f on the domain of size n, in order
  unfoldable pub values_on : ℕ → Poly q → List (Elem q)
  values_on n f = map (eval f) (domain n)

  -- the polynomial of length n with the given values on the domain of size n, in order:
  -- coefficient i is the sum of value j times g_n^(-ij), divided by n
  unfoldable pub interpolate : ℕ → List (Elem q) → Poly q
  interpolate n vs = tabulate n (λ i. sum (prime_ring q) n (λ j. get_or vs j 𝟘 ⊗ element n ((n - i) * j)) ⊘ of n)

  -- the polynomial of length n that agrees with the function f on the domain of size n
  unfoldable pub agreeing : ℕ → (Elem q → Elem q) → Poly q
  agreeing n f = interpolate n (map f (domain n))
