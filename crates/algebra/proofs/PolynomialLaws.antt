-- Laws of polynomials as lists of coefficients, the lists that `tabulate` makes among them: the values of sums, products
-- and parts, a list brought to a given length, a value as a sum over the coefficients, and lengths. Assumes nothing.
use mathlib.Core.Path.{◌≡◌, refl, sym, ◌∙◌, ap, ap₂}
use mathlib.Core.List.{List, [], ◌∷◌, ◌++◌}
use Prim.Native.Nat.{ℕ, zero, suc, ◌+◌, ◌-◌, ◌<◌, ◌≤◌, max}
use native.Mathlib.Omega.{arith}
use lib.ListN.{length, get_or, take, drop, replicate}
use Rattle.algebra.specs.Ring.{CommRing, pow}
use Rattle.algebra.specs.Lists.{tabulate}
use Rattle.algebra.specs.Counting.{All}
use Rattle.algebra.specs.Sum.{sum}
use Rattle.algebra.specs.Polynomial.{eval, add, scale, mul}
use Rattle.algebra.proofs.Counting.{all-tabulate}
use Rattle.algebra.proofs.RingLaws.{zero-add, one_mul, mul_left_comm, mul-zero, zero-mul}
use Rattle.algebra.proofs.Solver.{◌:+◌, ◌:*◌, :0, :1, ◌:=◌, ◌⊙◌, ◌from◌, ring, ring_by}
use Rattle.algebra.proofs.SumLaws.{sum_ext, sum-scale, sum_first}

pub length-tabulate : {T : Type 0} (n : ℕ) (f : ℕ → T) → length (tabulate n f) ≡ n
length-tabulate zero f = refl
length-tabulate (suc n) f = ap suc (length-tabulate n (λ i. f (suc i)))

pub get_d_tabulate : {T : Type 0} (n i : ℕ) (f : ℕ → T) (d : T) → i < n → get_or (tabulate n f) i d ≡ f i
get_d_tabulate zero i f d l = absurd (omega arith)
get_d_tabulate (suc n) zero f d l = refl
get_d_tabulate (suc n) (suc i) f d l = get_d_tabulate n i (λ i. f (suc i)) d (omega arith)

module _ {A : Type 0} (R : CommRing A) where
  open R use {𝟘, 𝟙, ◌⊕◌, ◌⊗◌, add-zero, mul_one}

  infixl 75 ◌⊕◌
  infixl 80 ◌⊗◌
  pub eval_add : (f g : List A) (x : A) → eval R (add R f g) x ≡ eval R f x ⊕ eval R g x
  eval_add [] g x = sym (zero-add R (eval R g x))
  eval_add (a ∷ f) [] x = sym (add-zero (eval R (a ∷ f) x))
  eval_add (a ∷ f) (b ∷ g) x = ring_by R (a ∷ b ∷ x ∷ eval R f x ∷ eval R g x ∷ eval R (add R f g) x ∷ [])
      (λ a b x f g s. a :+ b :+ x :* s := (a :+ x :* f) :+ (b :+ x :* g) from (x ⊙ (s := f :+ g)) ∷ []) (eval_add f g x, tt) tt

  pub eval-scale : (k : A) (f : List A) (x : A) → eval R (scale R k f) x ≡ k ⊗ eval R f x
  eval-scale k [] x = sym (mul-zero R k)
  eval-scale k (a ∷ f) x = ring_by R (k ∷ a ∷ x ∷ eval R f x ∷ eval R (scale R k f) x ∷ [])
      (λ k a x f s. k :* a :+ x :* s := k :* (a :+ x :* f) from (x ⊙ (s := k :* f)) ∷ []) (eval-scale k f x, tt) tt

  pub eval_mul : (f g : List A) (x : A) → eval R (mul R f g) x ≡ eval R f x ⊗ eval R g x
  eval_mul [] g x = sym (zero-mul R (eval R g x))
  eval_mul (a ∷ f) g x = eval_add (scale R a g) (𝟘 ∷ mul R f g) x
      ∙ ring_by R (a ∷ x ∷ eval R f x ∷ eval R g x ∷ eval R (scale R a g) x ∷ eval R (mul R f g) x ∷ [])
      (λ a x f g s p. s :+ (:0 :+ x :* p) := (a :+ x :* f) :* g from (:1 ⊙ (s := a :* g)) ∷ (x ⊙ (p := f :* g)) ∷ [])
      (eval-scale a g x, (eval_mul f g x, tt)) tt

  -- all coefficients 0
  pub eval-zero : (f : List A) (x : A) → All (λ c. c ≡ 𝟘) f → eval R f x ≡ 𝟘
  eval-zero [] x h = refl
  eval-zero (a ∷ f) x h = ap₂ (λ c v. c ⊕ x ⊗ v) h.0 (eval-zero f x h.1) ∙ zero-add R (x ⊗ 𝟘) ∙ mul-zero R x

  pub eval-replicate-zero : (n : ℕ) (x : A) → eval R (replicate n 𝟘) x ≡ 𝟘
  eval-replicate-zero zero x = refl
  eval-replicate-zero (suc n) x = ap (λ v. 𝟘 ⊕ x ⊗ v) (eval-replicate-zero n x) ∙ zero-add R (x ⊗ 𝟘) ∙ mul-zero R x

  -- the n coefficients from the constant on, with zeros where f has none
  abbrev pub fitted : ℕ → List A → List A
  fitted n f = tabulate n (λ i. get_or f i 𝟘)

  pub eval_fitted : (n : ℕ) (f : List A) (x : A) → length f ≤ n → eval R (fitted n f) x ≡ eval R f x
  eval_fitted n [] x short = eval-zero (fitted n []) x (all-tabulate (λ c. c ≡ 𝟘) n (λ i. 𝟘) (λ i l. refl))
  eval_fitted zero (a ∷ f) x short = absurd (omega arith)
  eval_fitted (suc n) (a ∷ f) x short = ap (λ v. a ⊕ x ⊗ v) (eval_fitted n f x (omega arith))

  pub eval_append : (f g : List A) (x : A) → eval R (f ++ g) x ≡ eval R f x ⊕ pow R x (length f) ⊗ eval R g x
  eval_append [] g x = ring R (eval R g x ∷ []) (λ g. g := :0 :+ :1 :* g) tt
  eval_append (a ∷ f) g x = ring_by R (a ∷ x ∷ eval R f x ∷ eval R g x ∷ pow R x (length f) ∷ eval R (f ++ g) x ∷ [])
      (λ a x f g p s. a :+ x :* s := (a :+ x :* f) :+ x :* p :* g from (x ⊙ (s := f :+ p :* g)) ∷ []) (eval_append f g x, tt) tt

  -- the first n coefficients and the rest
  pub eval_split : (n : ℕ) (f : List A) (x : A) → eval R f x ≡ eval R (take n f) x ⊕ pow R x n ⊗ eval R (drop n f) x
  eval_split zero f x = ring R (eval R f x ∷ []) (λ f. f := :0 :+ :1 :* f) tt
  eval_split (suc n) [] x = ring R (pow R x (suc n) ∷ []) (λ p. :0 := :0 :+ p :* :0) tt
  eval_split (suc n) (a ∷ f) x = ring_by R (a ∷ x ∷ eval R f x ∷ eval R (take n f) x ∷ pow R x n ∷ eval R (drop n f) x ∷ [])
      (λ a x f t p d. a :+ x :* f := (a :+ x :* t) :+ x :* p :* d from (x ⊙ (f := t :+ p :* d)) ∷ []) (eval_split n f x, tt) tt

  -- Horner's step for a sum of coefficients times powers
  horner : (n : ℕ) (c : ℕ → A) (x : A) → c 0 ⊕ x ⊗ sum R n (λ i. c (suc i) ⊗ pow R x i) ≡ sum R (suc n) (λ i. c i ⊗ pow R x i)
  horner n c x = ap₂ ◌⊕◌ (sym (mul_one (c 0))) (sym (sum-scale R n x (λ i. c (suc i) ⊗ pow R x i)) ∙ sum_ext R n _ _ step)
      ∙ sym (sum_first R n (λ i. c i ⊗ pow R x i))
    where
      step : (i : ℕ) → i < n → x ⊗ (c (suc i) ⊗ pow R x i) ≡ c (suc i) ⊗ (x ⊗ pow R x i)
      step i l = mul_left_comm R x (c (suc i)) (pow R x i)

  pub eval-tabulate : (n : ℕ) (f : ℕ → A) (x : A) → eval R (tabulate n f) x ≡ sum R n (λ i. f i ⊗ pow R x i)
  eval-tabulate zero f x = refl
  eval-tabulate (suc n) f x = ap (λ v. f 0 ⊕ x ⊗ v) (eval-tabulate n (λ i. f (suc i)) x) ∙ horner n f x

  pub eval-sum : (f : List A) (x : A) → eval R f x ≡ sum R (length f) (λ i. get_or f i 𝟘 ⊗ pow R x i)
  eval-sum [] x = refl
  eval-sum (a ∷ f) x = ap (λ v. a ⊕ x ⊗ v) (eval-sum f x) ∙ horner (length f) (λ i. get_or (a ∷ f) i 𝟘) x

  -- 1 · f
  pub scale_one : (f : List A) → scale R 𝟙 f ≡ f
  scale_one [] = refl
  scale_one (a ∷ f) = ap₂ ◌∷◌ (one_mul R a) (scale_one f)

  pub length-scale : (k : A) (f : List A) → length (scale R k f) ≡ length f
  length-scale k [] = refl
  length-scale k (a ∷ f) = ap suc (length-scale k f)

  pub length-add : (f g : List A) → length (add R f g) ≡ max (length f) (length g)
  length-add [] g = omega arith
  length-add (a ∷ f) [] = omega arith
  length-add (a ∷ f) (b ∷ g) = omega (arith, length-add f g)

  pub length-mul : (a b : A) (f g : List A) → length (mul R (a ∷ f) (b ∷ g)) ≡ suc (length f + length g)
  length-mul a b [] g = omega (arith, length-add (scale R a (b ∷ g)) (𝟘 ∷ []), length-scale a (b ∷ g))
  length-mul a b (c ∷ f) g =
      omega (arith, length-add (scale R a (b ∷ g)) (𝟘 ∷ mul R (c ∷ f) (b ∷ g)), length-scale a (b ∷ g), length-mul c b f g)

  pub length-product : (f g : List A) → 0 < length f → 0 < length g → length (mul R f g) ≡ length f + length g - 1
  length-product [] g h k = absurd (omega arith)
  length-product (a ∷ f) [] h k = absurd (omega arith)
  length-product (a ∷ f) (b ∷ g) h k = omega (arith, length-mul a b f g)
