-- A product h = f·g of length at most 2n on the coset s·D of a domain D of n elements, where s is neither 0 nor in D: there v_D is the
-- constant s^n - 1, so the remainder of f(s·Y)·g(s·Y) by v_D gives the quotient of h, once the remainder of h is known. Assumes nothing.
use mathlib.Core.Path.{◌≡◌, sym, ap, ap₂, ◌∙◌}
use mathlib.Core.Logic.{◌≢◌}
use mathlib.Core.Bool.{true}
use mathlib.Core.List.{[], ◌∷◌}
use Prim.Native.Nat.{ℕ, ◌+◌, ◌≤◌, ◌<◌}
use native.Mathlib.Omega.{arith}
use lib.ListN.{length, get_or}
use Rattle.algebra.specs.Ring.{pow}
use Rattle.algebra.specs.Polynomial.{twist}
use Rattle.algebra.proofs.RingLaws.{one_pow, mul-pow}
use Rattle.algebra.proofs.Solver.{◌:+◌, ◌:-◌, ◌:*◌, :-◌, :1, ◌:=◌, ◌⊙◌, ◌from◌, ring_by}
use Rattle.algebra.proofs.Division.{length-quotient, length-remainder, division}
use Rattle.algebra.proofs.PolynomialLaws.{length-add, length-scale, eval-scale, eval_add, eval_mul}
use Rattle.algebra.proofs.TwistLaws.{length-twist, coefficient_twist, eval-twist}
use Rattle.field.specs.Prime.{Prime}
use Rattle.field.specs.Element.{Elem, 𝟘, 𝟙, ◌⊕◌, ◌⊗◌, ◌⊖◌}
use Rattle.field.specs.Power.{reciprocal, ◌⊘◌}
use Rattle.field.proofs.ElementLaws.{prime_ring}
use Rattle.field.proofs.Field.{mul-reciprocal}
use Rattle.domain.specs.Size.{is_size}
use Rattle.domain.specs.Domain.{element, vanishing}
use Rattle.domain.specs.Polynomial.{Poly, eval, ◌⊞◌, ◌·◌, ◌⊠◌, quotient, remainder}
use Rattle.domain.specs.Qualifies.{Qualifies}
use Rattle.domain.proofs.SizeLaws.{size_positive}
use Rattle.domain.proofs.DomainLaws.{element-power}
use Rattle.domain.proofs.Interpolation.{equal_on_domain}
use Rattle.domain.proofs.Products.{eval-remainder}
use Rattle.poly.proofs.Coefficients.{coefficient_add, coefficient_scale}

module _ {q : Prime} (Q : Qualifies q) (n : ℕ) (size : is_size n ≡ true) (s : Elem q) (f g : Poly q) (short : length (f ⊠ g) ≤ n + n) where
  abbrev h : Poly q
  h = f ⊠ g

  abbrev v : Elem q
  v = vanishing n s

  -- what h is on the coset
  abbrev folded : Poly q
  folded = remainder n h ⊞ v · quotient n h

  abbrev twisted : Poly q → Poly q
  twisted = twist (prime_ring q) s

  folded_length : length folded ≡ n
  folded_length =
      omega (
        arith,
        length-add (prime_ring q) (remainder n h) (v · quotient n h),
        length-scale (prime_ring q) v (quotient n h),
        length-remainder (prime_ring q) n h,
        length-quotient (prime_ring q) n h (size_positive n size),
      )

  -- at y = s·a
  folded_value : (i : ℕ) → eval h (s ⊗ element n i) ≡ eval folded (s ⊗ element n i)
  unfolding vanishing
  folded_value i = let y : Elem q = s ⊗ element n i in
      ring_by (prime_ring q)
      (eval h y ∷ eval (quotient n h) y ∷ eval (remainder n h) y ∷ pow (prime_ring q) y n ∷ pow (prime_ring q) s n
      ∷ pow (prime_ring q) (element n i) n ∷ eval (v · quotient n h) y ∷ eval folded y ∷ [])
      (λ h k r p u w d t. h := t from
      (:1 ⊙ (h := k :* (p :- :1) :+ r)) ∷ (k ⊙ (p := u :* w)) ∷ ((k :* u) ⊙ (w := :1))
      ∷ ((:- :1) ⊙ (d := (u :- :1) :* k)) ∷ ((:- :1) ⊙ (t := r :+ d)) ∷ []) (
        division (prime_ring q) n h y (size_positive n size),
        (
          mul-pow (prime_ring q) s (element n i) n,
          (
            element-power Q n size i,
            (eval-scale (prime_ring q) v (quotient n h) y, (eval_add (prime_ring q) (remainder n h) (v · quotient n h) y, tt)),
          ),
        ),
      ) tt

  pub coset_remainder : remainder n (twisted f ⊠ twisted g) ≡ twisted folded
  coset_remainder =
      equal_on_domain Q n size _ _ (length-remainder (prime_ring q) n (twisted f ⊠ twisted g))
      (length-twist (prime_ring q) s folded ∙ folded_length)
      (λ i l.
      eval-remainder Q n size (twisted f ⊠ twisted g) i
      ∙ eval_mul (prime_ring q) (twisted f) (twisted g) (element n i)
      ∙ ap₂ (λ (x y : Elem q). x ⊗ y) (eval-twist (prime_ring q) s f (element n i)) (eval-twist (prime_ring q) s g (element n i))
      ∙ sym (eval_mul (prime_ring q) f g (s ⊗ element n i))
      ∙ folded_value i
      ∙ sym (eval-twist (prime_ring q) s folded (element n i)))

  -- so the quotient of h is found in the two remainders
  pub coset_quotient : s ≢ 𝟘 → v ≢ 𝟘 → (i : ℕ) → i < n
      → get_or (quotient n h) i 𝟘
      ≡ (pow (prime_ring q) (reciprocal s) i ⊗ get_or (remainder n (twisted f ⊠ twisted g)) i 𝟘 ⊖ get_or (remainder n h) i 𝟘) ⊘ v
  coset_quotient s≢0 v≢0 i below =
      ring_by (prime_ring q)
      (get_or (quotient n h) i 𝟘 ∷ get_or (remainder n h) i 𝟘 ∷ get_or (remainder n (twisted f ⊠ twisted g)) i 𝟘
      ∷ pow (prime_ring q) s i ∷ pow (prime_ring q) (reciprocal s) i ∷ v ∷ reciprocal v ∷ [])
      (λ k r t u w v j. k := (w :* t :- r) :* j from
      ((:- (j :* w)) ⊙ (t := u :* (r :+ v :* k))) ∷ ((:- (j :* (r :+ v :* k))) ⊙ (u :* w := :1)) ∷ ((:- k) ⊙ (v :* j := :1)) ∷ [])
      (coefficient, (unit, (mul-reciprocal v v≢0, tt))) tt
    where
      coefficient : get_or (remainder n (twisted f ⊠ twisted g)) i 𝟘
          ≡ pow (prime_ring q) s i ⊗ (get_or (remainder n h) i 𝟘 ⊕ v ⊗ get_or (quotient n h) i 𝟘)
      coefficient =
          ap (λ (k : Poly q). get_or k i 𝟘) coset_remainder
          ∙ coefficient_twist (prime_ring q) s folded i (omega (arith, folded_length))
          ∙ ap (λ (c : Elem q). pow (prime_ring q) s i ⊗ c)
          (coefficient_add (prime_ring q) (remainder n h) (v · quotient n h) i
          ∙ ap (λ (c : Elem q). get_or (remainder n h) i 𝟘 ⊕ c) (coefficient_scale (prime_ring q) v (quotient n h) i))

      unit : pow (prime_ring q) s i ⊗ pow (prime_ring q) (reciprocal s) i ≡ 𝟙
      unit =
          sym (mul-pow (prime_ring q) s (reciprocal s) i) ∙ ap (λ (x : Elem q). pow (prime_ring q) x i) (mul-reciprocal s s≢0)
          ∙ one_pow (prime_ring q) i
