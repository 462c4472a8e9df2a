-- Laws of f(s·Y): its length, its coefficients and its values. Assumes nothing.
use mathlib.Core.Path.{◌≡◌, sym, ◌∙◌}
use mathlib.Core.List.{List, [], ◌∷◌}
use Prim.Native.Nat.{ℕ, ◌<◌}
use lib.ListN.{length, get_or}
use Rattle.algebra.specs.Ring.{CommRing, pow}
use Rattle.algebra.specs.Polynomial.{eval, twist}
use Rattle.algebra.proofs.RingLaws.{mul-pow}
use Rattle.algebra.proofs.Solver.{◌:*◌, :-◌, ◌:=◌, ◌⊙◌, ◌from◌, ring_by}
use Rattle.algebra.proofs.SumLaws.{sum_ext}
use Rattle.algebra.proofs.PolynomialLaws.{length-tabulate, get_d_tabulate, eval-tabulate, eval-sum}

module _ {A : Type 0} (R : CommRing A) where
  open R use {𝟘, ◌⊗◌}

  infixl 80 ◌⊗◌
  pub length-twist : (s : A) (f : List A) → length (twist R s f) ≡ length f
  length-twist s f = length-tabulate (length f) (λ i. pow R s i ⊗ get_or f i 𝟘)

  pub coefficient_twist : (s : A) (f : List A) (i : ℕ) → i < length f → get_or (twist R s f) i 𝟘 ≡ pow R s i ⊗ get_or f i 𝟘
  coefficient_twist s f i below = get_d_tabulate (length f) i (λ i. pow R s i ⊗ get_or f i 𝟘) 𝟘 below

  pub eval-twist : (s : A) (f : List A) (x : A) → eval R (twist R s f) x ≡ eval R f (s ⊗ x)
  eval-twist s f x =
      eval-tabulate R (length f) (λ i. pow R s i ⊗ get_or f i 𝟘) x
      ∙ sum_ext R (length f) _ _ (λ i l.
      ring_by R (pow R s i ∷ get_or f i 𝟘 ∷ pow R x i ∷ pow R (s ⊗ x) i ∷ [])
      (λ a c b p. a :* c :* b := c :* p from ((:- c) ⊙ (p := a :* b)) ∷ []) (mul-pow R s x i, tt) tt)
      ∙ sym (eval-sum R f (s ⊗ x))
