-- On the domains the transform by halves is plain evaluation, its way back is plain interpolation, and each undoes the other.
-- Assumes nothing.
use mathlib.Core.Path.{◌≡◌, sym, ap, ◌∙◌}
use mathlib.Core.List.{List, [], ◌∷◌}
use Prim.Native.Nat.{ℕ, zero, suc, ◌+◌, ◌-◌, ◌^◌, ◌<◌}
use native.Mathlib.Omega.{arith}
use lib.Pow.{pow_pos}
use lib.ListN.{length, get_or}
use Rattle.algebra.specs.Lists.{tabulate}
use Rattle.algebra.specs.Ring.{pow}
use Rattle.algebra.proofs.RingLaws.{pow-add, mul-pow, one_pow}
use Rattle.algebra.proofs.Solver.{◌:*◌, :-◌, :1, ◌:=◌, ◌⊙◌, ◌from◌, ring_by}
use Rattle.algebra.proofs.PolynomialLaws.{eval-scale, length-scale, length-tabulate, get_d_tabulate}
use Rattle.algebra.proofs.HalvingLaws.{HalfTurn, order_half_turn, inverse_half_turn, transform-values}
use Rattle.field.specs.Prime.{Prime}
use Rattle.field.specs.Element.{Elem, of, 𝟘, 𝟙, ◌⊗◌}
use Rattle.field.specs.Power.{reciprocal}
use Rattle.field.proofs.ElementLaws.{prime_ring, mul_comm}
use Rattle.field.proofs.Field.{no_zero_divisors}
use Rattle.domain.specs.Domain.{root, element, domain}
use Rattle.domain.specs.Polynomial.{Poly, eval, ◌·◌, values_on, interpolate}
use Rattle.domain.specs.Qualifies.{Qualifies}
use Rattle.domain.specs.Transform.{to_values, to_coefficients}
use Rattle.domain.proofs.ListLaws.{map-tabulate, equal-entries}
use Rattle.domain.proofs.SizeLaws.{power-is_size}
use Rattle.domain.proofs.DomainLaws.{domain_order}
use Rattle.domain.proofs.Interpolation.{length-values_on, length-interpolate, interpolate-at, values-interpolate, interpolate-values}

module _ {q : Prime} (Q : Qualifies q) (k : ℕ) (within : k < 11) where
  abbrev n : ℕ
  n = 2 ^ k

  abbrev g : Elem q
  g = root n

  abbrev last : Elem q
  last = element n (n - 1)

  whole_turn : pow (prime_ring q) g n ≡ 𝟙
  whole_turn = (domain_order Q n (power-is_size k within)).full

  root_turns : HalfTurn (prime_ring q) k g
  root_turns = order_half_turn (prime_ring q) (no_zero_divisors q) k g (domain_order Q n (power-is_size k within))

  -- the last element is the inverse of the root, and so are their powers
  last_inverse : last ⊗ g ≡ 𝟙
  unfolding element
  last_inverse =
      let positive : suc (n - 1) ≡ n = omega (arith, pow_pos k) in
      mul_comm last g ∙ ap (pow (prime_ring q) g) positive ∙ whole_turn

  powers-inverse : (i : ℕ) → pow (prime_ring q) last i ⊗ pow (prime_ring q) g i ≡ 𝟙
  powers-inverse i = sym (mul-pow (prime_ring q) last g i) ∙ ap (λ x. pow (prime_ring q) x i) last_inverse ∙ one_pow (prime_ring q) i

  -- the powers of the last element are the elements in falling order
  falling : (i : ℕ) → i < n → pow (prime_ring q) last i ≡ element n (n - i)
  unfolding element
  falling i below =
      let whole : i + (n - i) ≡ n = omega arith in
      let turn : pow (prime_ring q) g i ⊗ pow (prime_ring q) g (n - i) ≡ 𝟙 =
      sym (pow-add (prime_ring q) g i (n - i)) ∙ ap (pow (prime_ring q) g) whole ∙ whole_turn in
      ring_by (prime_ring q) (pow (prime_ring q) last i ∷ pow (prime_ring q) g i ∷ pow (prime_ring q) g (n - i) ∷ [])
      (λ v u r. v := r from (r ⊙ (v :* u := :1)) ∷ ((:- v) ⊙ (u :* r := :1)) ∷ []) (powers-inverse i, (turn, tt)) tt

  -- the transform is plain evaluation
  pub to_values_agrees : (f : Poly q) → length f ≡ n → to_values k f ≡ values_on n f
  unfolding to_values element values_on domain
  to_values_agrees f e = transform-values (prime_ring q) k g root_turns f e ∙ sym (map-tabulate (eval f) n (element n))

last_turns : {q : Prime} (Q : Qualifies q) (k : ℕ) (within : k < 11) → HalfTurn (prime_ring q) k (last Q k within)
last_turns Q zero within = tt
last_turns {q} Q (suc k) within =
    inverse_half_turn (prime_ring q) k (last Q (suc k) within) (root (2 ^ suc k)) (powers-inverse Q (suc k) within (2 ^ k)) (root_turns Q (suc k) within)

module _ {q : Prime} (Q : Qualifies q) (k : ℕ) (within : k < 11) where
  -- its way back is plain interpolation
  pub to_coefficients_agrees : (vs : List (Elem q)) → length vs ≡ 2 ^ k → to_coefficients k vs ≡ interpolate (2 ^ k) vs
  unfolding to_coefficients
  to_coefficients_agrees vs e =
      transform-values (prime_ring q) k v (last_turns Q k within) (share · vs) (length-scale (prime_ring q) share vs ∙ e)
      ∙ equal-entries 𝟘 _ _ (length-tabulate (2 ^ k) _ ∙ sym (length-interpolate (2 ^ k) vs)) entry
    where
      v : Elem q
      v = element (2 ^ k) (2 ^ k - 1)

      share : Elem q
      share = reciprocal (of (2 ^ k))

      value : ℕ → Elem q
      value i = eval (share · vs) (pow (prime_ring q) v i)

      entry : (i : ℕ) → i < length (tabulate (2 ^ k) value) → get_or (tabulate (2 ^ k) value) i 𝟘 ≡ get_or (interpolate (2 ^ k) vs) i 𝟘
      entry i l =
          let below : i < 2 ^ k = omega (arith, length-tabulate (2 ^ k) value) in
          get_d_tabulate (2 ^ k) i value 𝟘 below ∙ eval-scale (prime_ring q) share vs (pow (prime_ring q) v i)
          ∙ mul_comm share (eval vs (pow (prime_ring q) v i)) ∙ ap (λ x. eval vs x ⊗ share) (falling Q k within i below)
          ∙ sym (interpolate-at (2 ^ k) vs i e below)

  -- each undoes the other
  pub values-of_coefficients : (vs : List (Elem q)) → length vs ≡ 2 ^ k → to_values k (to_coefficients k vs) ≡ vs
  values-of_coefficients vs e =
      ap (to_values k) (to_coefficients_agrees vs e) ∙ to_values_agrees Q k within (interpolate (2 ^ k) vs) (length-interpolate (2 ^ k) vs)
      ∙ values-interpolate Q (2 ^ k) (power-is_size k within) vs e

  pub coefficients_of-values : (f : Poly q) → length f ≡ 2 ^ k → to_coefficients k (to_values k f) ≡ f
  coefficients_of-values f e =
      ap (to_coefficients k) (to_values_agrees Q k within f e) ∙ to_coefficients_agrees (values_on (2 ^ k) f) (length-values_on (2 ^ k) f)
      ∙ interpolate-values Q (2 ^ k) (power-is_size k within) f e
