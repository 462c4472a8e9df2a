-- Document 02, request 6: the transform by halves "must agree with plain interpolation and evaluation on every list, each transform must
-- undo the other"; of the definitions and of the public calls. The sizes are 2^k, k from 0 to 10. Statements only; the proofs are in
-- proofs/FastInterpolation. Assumes nothing.
use Rattle.std.specs.Prelude.{◌≡◌, List, map, ℕ, ◌^◌, ◌<◌, ◌≤◌, length}
use Rattle.algebra.specs.Counting.{All}
use Rattle.algebra.specs.Lists.{tabulate}
use Rattle.algebra.specs.Ring.{Order, pow}
use Rattle.algebra.specs.Halving.{transform}
use Rattle.field.specs.Prime.{Prime}
use Rattle.field.specs.Element.{Elem, of, words}
use Rattle.field.proofs.ElementLaws.{prime_ring}
use Rattle.domain.specs.Polynomial.{Poly, eval, values_on, interpolate}
use Rattle.domain.specs.Transform.{to_values, to_coefficients}
use Rattle.protocol.specs.Refusals.{Done}
use Rattle.protocol.specs.Calls.{interpolate_call, evaluate_on_domain_call}

-- for every prime that qualifies
pub record FastInterpolation (q : Prime) : Type 0 where
  -- "The statement is made for a size in general": for every k, and every w of order 2^k, the values at the powers of w
  pub at-powers :
      (k : ℕ) (w : Elem q) → Order (prime_ring q) (2 ^ k) w → (f : Poly q) → length f ≡ 2 ^ k
      → transform (prime_ring q) k w f ≡ tabulate (2 ^ k) (λ i. eval f (pow (prime_ring q) w i))
  -- from coefficients to values it is plain evaluation on the domain
  pub values_agree : (k : ℕ) → k ≤ 10 → (f : Poly q) → length f ≡ 2 ^ k → to_values k f ≡ values_on (2 ^ k) f
  -- from values to coefficients it is plain interpolation
  pub coefficients_agree : (k : ℕ) → k ≤ 10 → (vs : List (Elem q)) → length vs ≡ 2 ^ k → to_coefficients k vs ≡ interpolate (2 ^ k) vs
  -- each undoes the other
  pub values_back : (k : ℕ) → k ≤ 10 → (vs : List (Elem q)) → length vs ≡ 2 ^ k → to_values k (to_coefficients k vs) ≡ vs
  pub coefficients_back : (k : ℕ) → k ≤ 10 → (f : Poly q) → length f ≡ 2 ^ k → to_coefficients k (to_values k f) ≡ f
  -- the calls answer, word for word, what the transform gives
  pub values_call :
      (k : ℕ) → k ≤ 10 → (f : List ℕ) → length f ≡ 2 ^ k → All (λ w. w < q.p) f
      → evaluate_on_domain_call q (2 ^ k) f (2 ^ k) ≡ Done (words (to_values {q = q} k (map of f)))
  pub coefficients_call :
      (k : ℕ) → k ≤ 10 → (vs : List ℕ) → length vs ≡ 2 ^ k → All (λ w. w < q.p) vs
      → interpolate_call q (2 ^ k) vs (2 ^ k) ≡ Done (words (to_coefficients {q = q} k (map of vs)))
  -- and each, given the other's answer, answers what the other was given
  pub values_call_back :
      (n lent : ℕ) (vs f : List ℕ) → interpolate_call q n vs lent ≡ Done f → evaluate_on_domain_call q n f lent ≡ Done vs
  pub coefficients_call_back :
      (n lent : ℕ) (f vs : List ℕ) → evaluate_on_domain_call q n f lent ≡ Done vs → interpolate_call q n vs lent ≡ Done f
