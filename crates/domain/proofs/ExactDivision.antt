-- Division by v_D where nothing is left, for a domain D of n elements: enough equal points give the quotient and equality at every
-- point; and a polynomial of length n, which is its own remainder, has its sum over D divided by n as its constant. Assumes nothing.
use mathlib.Core.Path.{◌≡◌, sym, ap, ap₂, ◌∙◌}
use mathlib.Core.Bool.{true}
use mathlib.Core.List.{[], ◌∷◌, tail}
use Prim.Native.Nat.{ℕ, suc, ◌-◌, ◌≤◌, ◌<◌}
use lib.ListN.{length, get_or, replicate, length-replicate}
use native.Mathlib.Omega.{arith}
use Rattle.algebra.specs.Counting.{MoreThan}
use Rattle.algebra.proofs.Counting.{all_map}
use Rattle.algebra.proofs.Division.{length-remainder}
use Rattle.algebra.proofs.PolynomialLaws.{eval-replicate-zero}
use Rattle.algebra.proofs.RingLaws.{mul-zero, zero-add}
use Rattle.algebra.proofs.Solver.{◌:*◌, :-◌, :1, ◌:=◌, ◌⊙◌, ◌from◌, ring_by}
use Rattle.field.specs.Prime.{Prime}
use Rattle.field.specs.Element.{Elem, of, 𝟘, ◌⊕◌, ◌⊗◌}
use Rattle.field.specs.Power.{reciprocal, ◌⊘◌}
use Rattle.field.proofs.ElementLaws.{add-zero, prime_ring}
use Rattle.field.proofs.Field.{mul-reciprocal}
use Rattle.domain.specs.Size.{is_size}
use Rattle.domain.specs.Domain.{element, Outside, vanishing, sum_over}
use Rattle.domain.specs.Polynomial.{Poly, eval, quotient, remainder}
use Rattle.domain.specs.Qualifies.{Qualifies}
use Rattle.domain.proofs.SizeLaws.{size_positive, size_not-zero}
use Rattle.domain.proofs.DomainLaws.{inside-element, vanishing-inside}
use Rattle.domain.proofs.Interpolation.{equal_on_domain}
use Rattle.domain.proofs.Division.{divide, sum-of-remainder, division_recovers}

module _ {q : Prime} (Q : Qualifies q) (n : ℕ) (s : is_size n ≡ true) where
  -- v_D is 0 on D
  pub vanishing_on : (i : ℕ) → i < n → vanishing {q = q} n (element n i) ≡ 𝟘
  vanishing_on i below = vanishing-inside Q n s (element n i) (inside-element Q n s i below)

  -- where h · v_D agrees with f at enough points outside the domain, h is the quotient of f, and there is no remainder
  pub quotient_recovers :
      (f h : Poly q) → n ≤ length f → length h ≡ length f - n → (d : ℕ) → length f ≤ suc d
      → MoreThan d (λ y. Outside n y × (eval f y ≡ eval h y ⊗ vanishing n y))
      → (quotient n f ≡ h) × ((y : Elem q) → eval f y ≡ eval h y ⊗ vanishing n y)
  quotient_recovers f h long h-length d short (l, distinct, agree, more) = (
    r.0,
    λ y. divide n (size_positive n s) f y ∙ ap₂ (λ h r. eval h y ⊗ vanishing n y ⊕ eval r y) r.0 r.1 ∙ no_remainder h y,
  )
    where
      no_remainder : (h : Poly q) (y : Elem q) → eval h y ⊗ vanishing n y ⊕ eval (replicate n 𝟘) y ≡ eval h y ⊗ vanishing n y
      no_remainder h y = ap (λ x. eval h y ⊗ vanishing n y ⊕ x) (eval-replicate-zero (prime_ring q) n y) ∙ add-zero _

      r : (quotient n f ≡ h) × (remainder n f ≡ replicate n 𝟘)
      r = division_recovers Q n s f h (replicate n 𝟘) long h-length (length-replicate n 𝟘) d short
          (l, distinct, all_map (λ y e. (e.0, e.1 ∙ sym (no_remainder h y))) l agree, more)

  -- the sum over the domain of a polynomial of length n is n times its constant
  pub sum-of-short : (x : Elem q) (g : Poly q) → suc (length g) ≡ n → sum_over n (eval (x ∷ g)) ≡ of n ⊗ x
  sum-of-short x g e = sum-of-remainder Q n s (x ∷ g) ∙ ap (λ f. of n ⊗ get_or f 0 𝟘) same
    where
      same : remainder n (x ∷ g) ≡ x ∷ g
      same = equal_on_domain Q n s (remainder n (x ∷ g)) (x ∷ g) (length-remainder (prime_ring q) n (x ∷ g)) e (λ i below.
          sym (divide n (size_positive n s) (x ∷ g) (element n i)
          ∙ ap (λ v. eval (quotient n (x ∷ g)) (element n i) ⊗ v ⊕ eval (remainder n (x ∷ g)) (element n i)) (vanishing_on i below)
          ∙ ap (λ v. v ⊕ eval (remainder n (x ∷ g)) (element n i)) (mul-zero (prime_ring q) _)
          ∙ zero-add (prime_ring q) _))

  -- so the constant is the sum divided by n
  pub constant-of-sum : (f : Poly q) → length f ≡ n → f ≡ sum_over n (eval f) ⊘ of n ∷ tail f
  constant-of-sum [] e = absurd (omega (arith, size_positive n s))
  constant-of-sum (x ∷ g) e = ap (λ v. v ∷ g) (ring_by (prime_ring q) (x ∷ of n ∷ reciprocal (of n) ∷ sum_over n (eval (x ∷ g)) ∷ [])
      (λ x n i t. x := t :* i from ((:- i) ⊙ (t := n :* x)) ∷ ((:- x) ⊙ (n :* i := :1)) ∷ [])
      (sum-of-short x g e, (mul-reciprocal (of n) (size_not-zero n s), tt)) tt)
