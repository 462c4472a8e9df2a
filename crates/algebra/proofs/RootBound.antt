-- In a ring with no zero divisors a polynomial has fewer roots than coefficients, unless all coefficients are 0. So two
-- polynomials that agree at as many points as they have coefficients agree everywhere. Assumes nothing.
use mathlib.Core.Path.{◌≡◌, refl, sym, ◌∙◌, ap, ap₂}
use mathlib.Core.Logic.{◌≢◌}
use mathlib.Core.List.{List, [], ◌∷◌}
use Prim.Native.Nat.{suc, ◌-◌, ◌≤◌}
use native.Mathlib.Omega.{arith}
use native.Mathlib.Decide.{dec_le}
use lib.ListN.{length}
use Rattle.algebra.specs.Ring.{CommRing}
use Rattle.algebra.specs.Counting.{All, Distinct, AtMost}
use Rattle.algebra.specs.Polynomial.{eval, add, scale}
use Rattle.algebra.proofs.RingLaws.{sub_zero→eq, eq→sub_zero}
use Rattle.algebra.proofs.Solver.{◌:+◌, ◌:-◌, ◌:*◌, :-◌, :0, :1, ◌:=◌, ◌⊙◌, ◌from◌, ring, ring_by}
use Rattle.algebra.proofs.Counting.{all_map, all_map₂}
use Rattle.algebra.proofs.PolynomialLaws.{eval_add, eval-scale, eval-zero, length-add, length-scale}

module _ {A : Type 0} (R : CommRing A) where
  open R use {𝟘, 𝟙, ◌⊕◌, ◌⊗◌, neg}

  infixl 75 ◌⊕◌
  infixl 80 ◌⊗◌
  -- the values at a of f and of what is left of f without its first coefficients
  abbrev tails : A → List A → List A
  tails a [] = []
  tails a (c ∷ f) = eval R (c ∷ f) a ∷ tails a f

  length_tails : (a : A) (f : List A) → length (tails a f) ≡ length f
  length_tails a [] = refl
  length_tails a (c ∷ f) = ap suc (length_tails a f)

  tails_zero : (a : A) (f : List A) → All (λ c. c ≡ 𝟘) (tails a f) → All (λ c. c ≡ 𝟘) f
  tails_zero a [] h = tt
  tails_zero a (c ∷ f) h =
      let z : All (λ c. c ≡ 𝟘) f = tails_zero a f h.1 in (
        ring_by R (a ∷ c ∷ eval R f a ∷ []) (λ a c f. c := :0 from (:1 ⊙ (c :+ a :* f := :0)) ∷ ((:- a) ⊙ (f := :0)) ∷ [])
            (h.0, (eval-zero R f a z, tt)) tt,
        z,
      )

  tails_division : (a : A) (f : List A) (x : A) → x ⊗ eval R f x ≡ (x ⊕ neg a) ⊗ eval R (tails a f) x ⊕ a ⊗ eval R f a
  tails_division a [] x = ring R (a ∷ x ∷ []) (λ a x. x :* :0 := (x :- a) :* :0 :+ a :* :0) tt
  tails_division a (c ∷ f) x = ring_by R (a ∷ c ∷ x ∷ eval R f x ∷ eval R f a ∷ eval R (tails a f) x ∷ [])
      (λ a c x u v t. x :* (c :+ x :* u) := (x :- a) :* ((c :+ a :* v) :+ x :* t) :+ a :* (c :+ a :* v) from
      (x ⊙ (x :* u := (x :- a) :* t :+ a :* v)) ∷ [])
      (tails_division a f x, tt) tt

  -- c ∷ f divided by Y - a has the quotient tails a f, and the value at a as remainder
  linear_division : (a c : A) (f : List A) (x : A) → eval R (c ∷ f) x ≡ (x ⊕ neg a) ⊗ eval R (tails a f) x ⊕ eval R (c ∷ f) a
  linear_division a c f x = ring_by R (a ∷ c ∷ x ∷ eval R f x ∷ eval R f a ∷ eval R (tails a f) x ∷ [])
      (λ a c x u v t. c :+ x :* u := (x :- a) :* t :+ (c :+ a :* v) from (:1 ⊙ (x :* u := (x :- a) :* t :+ a :* v)) ∷ [])
      (tails_division a f x, tt) tt

  subtract : List A → List A → List A
  subtract f g = add R f (scale R (neg 𝟙) g)

  eval_subtract : (f g : List A) (x : A) → eval R (subtract f g) x ≡ eval R f x ⊕ neg (eval R g x)
  unfolding subtract
  eval_subtract f g x = eval_add R f (scale R (neg 𝟙) g) x
      ∙ ring_by R (eval R f x ∷ eval R g x ∷ eval R (scale R (neg 𝟙) g) x ∷ [])
      (λ f g s. f :+ s := f :- g from (:1 ⊙ (s := (:- :1) :* g)) ∷ []) (eval-scale R (neg 𝟙) g x, tt) tt

  subtract_zero : (f g : List A) → length f ≡ length g → All (λ c. c ≡ 𝟘) (subtract f g) → f ≡ g
  unfolding subtract
  subtract_zero [] [] e z = refl
  subtract_zero [] (b ∷ g) e z = absurd (omega arith)
  subtract_zero (a ∷ f) [] e z = absurd (omega arith)
  subtract_zero (a ∷ f) (b ∷ g) e z = ap₂ ◌∷◌
      (ring_by R (a ∷ b ∷ []) (λ a b. a := b from (:1 ⊙ (a :+ (:- :1) :* b := :0)) ∷ []) (z.0, tt) tt)
      (subtract_zero f g (omega arith) z.1)

  module _ (nzd : (a b : A) → a ⊗ b ≡ 𝟘 → a ≢ 𝟘 → b ≡ 𝟘) where
    tails_root : (a c : A) (f : List A) → eval R (c ∷ f) a ≡ 𝟘 → (x : A) → x ≢ a → eval R (c ∷ f) x ≡ 𝟘 → eval R (tails a f) x ≡ 𝟘
    tails_root a c f ha x ne hx = nzd (x ⊕ neg a) (eval R (tails a f) x)
        (ring_by R (a ∷ x ∷ eval R (c ∷ f) x ∷ eval R (c ∷ f) a ∷ eval R (tails a f) x ∷ [])
        (λ a x u v t. (x :- a) :* t := :0 from ((:- :1) ⊙ (u := (x :- a) :* t :+ v)) ∷ (:1 ⊙ (u := :0)) ∷ ((:- :1) ⊙ (v := :0)) ∷ [])
        (linear_division a c f x, (hx, (ha, tt))) tt)
        (λ e. ne (sub_zero→eq R x a e))

    -- as many distinct roots as coefficients: every coefficient is 0
    pub roots_zero : (l f : List A) → length f ≤ length l → Distinct l → All (λ x. eval R f x ≡ 𝟘) l → All (λ c. c ≡ 𝟘) f
    roots_zero [] [] le d h = tt
    roots_zero (a ∷ l) [] le d h = tt
    roots_zero [] (c ∷ f) le d h = absurd (omega arith)
    roots_zero (a ∷ l) (c ∷ f) le d h = tails_zero a (c ∷ f)
        (h.0, roots_zero l (tails a f) (omega (arith, length_tails a f)) d.1 (all_map₂ (tails_root a c f h.0) l d.0 h.1))

    -- fewer roots than coefficients
    pub root_bound : (f : List A) → ¬ All (λ c. c ≡ 𝟘) f → AtMost (length f - 1) (λ x. eval R f x ≡ 𝟘)
    root_bound f nz l d h = elim (dec_le (length l) (length f - 1)) [ yes le ↦ le | no gt ↦ absurd (nz (roots_zero l f (omega arith) d h)) ]

    subtract_agree : (l f g : List A) → length f ≤ length l → length g ≤ length l → Distinct l → All (λ x. eval R f x ≡ eval R g x) l
        → All (λ c. c ≡ 𝟘) (subtract f g)
    unfolding subtract
    subtract_agree l f g hf hg d h = roots_zero l (subtract f g)
        (omega (arith, length-add R f (scale R (neg 𝟙) g), length-scale R (neg 𝟙) g)) d
        (all_map (λ x e. eval_subtract f g x ∙ eq→sub_zero R (eval R f x) (eval R g x) e) l h)

    -- polynomials that agree at as many points as either has coefficients agree everywhere
    pub agree_everywhere : (l f g : List A) → length f ≤ length l → length g ≤ length l → Distinct l → All (λ x. eval R f x ≡ eval R g x) l
        → (x : A) → eval R f x ≡ eval R g x
    agree_everywhere l f g hf hg d h x = sub_zero→eq R (eval R f x) (eval R g x)
        (sym (eval_subtract f g x) ∙ eval-zero R (subtract f g) x (subtract_agree l f g hf hg d h))

    -- and have the same coefficients, where they are equally long
    pub agree_equal : (l f g : List A) → length f ≤ length l → length f ≡ length g → Distinct l → All (λ x. eval R f x ≡ eval R g x) l
        → f ≡ g
    agree_equal l f g hf e d h = subtract_zero f g e (subtract_agree l f g hf (omega arith) d h)
