-- Domains: the powers of a root of unity. A domain is named by its size (document 01, "Field and domains"). Assumes nothing.
use Rattle.std.specs.Prelude.{◌≡◌, Bool, false, List, ℕ, ◌-◌, ◌/◌}
use Rattle.algebra.specs.Lists.{pick, tabulate, any}
use Rattle.algebra.specs.Ring.{pow}
use Rattle.algebra.specs.Sum.{sum}
use Rattle.field.specs.Prime.{Prime}
use Rattle.field.specs.Element.{Elem, of, 𝟘, 𝟙, ◌⊗◌, ◌⊖◌, equal}
use Rattle.field.specs.Power.{power, ◌⊘◌}
use Rattle.field.proofs.ElementLaws.{prime_ring}

module _ {q : Prime} where
  -- g_n = generator^((p-1)/n)
  unfoldable pub root : ℕ → Elem q
  root n = power (of q.generator) ((q.p - 1) / n)

  -- "Element i of the domain of size n is g_n^i"
  unfoldable pub element : ℕ → ℕ → Elem q
  element n i = pow (prime_ring q) (root n) i

  -- the n elements in order
  unfoldable pub domain : ℕ → List (Elem q)
  domain n = tabulate n (element n)

  -- y is one of the elements
  unfoldable pub inside : ℕ → Elem q → Bool
  inside n y = any (equal y) (domain n)

  abbrev pub Outside : ℕ → Elem q → Type 0
  Outside n y = inside n y ≡ false

  -- "v_D(Y) = Y^|D| - 1"
  unfoldable pub vanishing : ℕ → Elem q → Elem q
  vanishing n y = pow (prime_ring q) y n ⊖ 𝟙

  -- "L_a of D at Y is a·v_D(Y) / (|D|(Y - a)) off D; on D it is 1 at a and 0 elsewhere"
  unfoldable pub lagrange : ℕ → Elem q → Elem q → Elem q
  lagrange n a y = pick (inside n y) (pick (equal y a) 𝟙 𝟘) (a ⊗ vanishing n y ⊘ (of n ⊗ (y ⊖ a)))

  -- the sum of f over the domain
  unfoldable pub sum_over : ℕ → (Elem q → Elem q) → Elem q
  sum_over n f = sum (prime_ring q) n (λ i. f (element n i))
