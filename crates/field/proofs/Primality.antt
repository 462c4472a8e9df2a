-- A number that passes a computed test by trial division has no divisor between 1 and itself. Assumes nothing.
use Rattle.std.proofs.Common.{◌≡◌, ℕ, zero, suc, ◌+◌, ◌*◌, ◌/◌, ◌%◌, ◌^◌, ◌<◌, ◌≤◌, Bool, true, false, not, ◌&&◌, T, eqb, ltb, ◌⊎◌, sym, ap, ◌∙◌, subst, inl, inr, ⊎_elim, mul-le-mul_right, mul-le-mul, one-mul, pow-suc, lt_of_not-le, arith, ltb→lt, T_not}
use lib.Dec.{eqb_refl}
use native.Mathlib.Nat.{pow-zero, dvd_of_mod-eq-zero, div-mul_cancel, mul-mod_right}
use native.Mathlib.Decide.{dec_le}

-- both of two tests pass
pub and_left : (a b : Bool) → T (a && b) → T a
and_left true b t = tt
and_left false b t = absurd t

pub and_right : (a b : Bool) → T (a && b) → T b
and_right true b t = t
and_right false b t = absurd t

-- none of the 2^k numbers from d on divides p; halved, so that the checker's stack stays small
unfoldable pub clear : ℕ → ℕ → ℕ → Bool
clear p zero d = not (eqb (p % d) 0)
clear p (suc k) d = clear p k d && clear p k (d + 2 ^ k)

-- p is below (2 + 2^k)², and none of the 2^k numbers from 2 on divides it
unfoldable pub passes : ℕ → ℕ → Bool
unfolding clear
passes k p = ltb p ((2 + 2 ^ k) * (2 + 2 ^ k)) && clear p k 2

below_or_not : (a b : ℕ) → (a < b) ⊎ (b ≤ a)
below_or_not a b = elim (dec_le b a) [ yes h ↦ inr h | no h ↦ inl (lt_of_not-le h) ]

clear_sound : (p k d : ℕ) → T (clear p k d) → (e : ℕ) → d ≤ e → e < d + 2 ^ k → p % e ≡ 0 → ⊥
unfolding clear
clear_sound p zero d t e l h q =
    let same : e ≡ d = omega (arith, pow-zero 2) in
    T_not (eqb (p % d) 0) t (subst (λ (x : ℕ). T (eqb x 0)) (sym q ∙ ap (λ (x : ℕ). p % x) same) (eqb_refl 0))
clear_sound p (suc k) d t e l h q =
    ⊎_elim
    (λ (low : e < d + 2 ^ k). clear_sound p k d (and_left (clear p k d) (clear p k (d + 2 ^ k)) t) e l low q)
    (λ (high : d + 2 ^ k ≤ e).
    clear_sound p k (d + 2 ^ k) (and_right (clear p k d) (clear p k (d + 2 ^ k)) t) e high (omega (arith, pow-suc 2 k)) q)
    (below_or_not e (d + 2 ^ k))

-- a number below s² with no divisor from 2 to s - 1 has none at all
no_larger : (p s : ℕ) → p < s * s → ((d : ℕ) → 1 < d → d < s → p % d ≡ 0 → ⊥) → (d : ℕ) → 1 < d → d < p → p % d ≡ 0 → ⊥
no_larger p s bound none d l h q = ⊎_elim (λ (low : d < s). none d l low q) (λ (high : s ≤ d). by_cofactor high) (below_or_not d s)
  where
    whole : p / d * d ≡ p
    whole = div-mul_cancel d (dvd_of_mod-eq-zero d q)

    above_one : 1 < p / d
    above_one = lt_of_not-le (λ few. omega (arith, whole, one-mul d, mul-le-mul_right d few))

    below-s : s ≤ d → p / d < s
    below-s high = lt_of_not-le (λ many. omega (arith, whole, mul-le-mul many high))

    by_cofactor : s ≤ d → ⊥
    by_cofactor high = none (p / d) above_one (below-s high) (ap (λ (x : ℕ). x % (p / d)) (sym whole) ∙ mul-mod_right (p / d) d)

pub passes-sound : (k p : ℕ) → T (passes k p) → (d : ℕ) → 1 < d → d < p → p % d ≡ 0 → ⊥
unfolding passes
passes-sound k p t =
    let s : ℕ = 2 + 2 ^ k in
    no_larger p s (ltb→lt p (s * s) (and_left (ltb p (s * s)) (clear p k 2) t))
    (clear_sound p k 2 (and_right (ltb p (s * s)) (clear p k 2) t))
