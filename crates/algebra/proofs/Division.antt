-- Division by Y^n - 1: what the quotient and the remainder of a polynomial are, by values and lengths, and that a summand of length at
-- most n does not change the quotient. Assumes nothing.
use mathlib.Core.Path.{◌≡◌, refl, sym, ap, ◌∙◌}
use mathlib.Core.List.{List, [], ◌∷◌}
use Prim.Native.Nat.{ℕ, zero, suc, ◌-◌, ◌≤◌, ◌<◌}
use native.Mathlib.Omega.{arith}
use lib.ListN.{length, take, drop, length-take, length-drop, length-replicate, drop_of_length-le}
use Rattle.algebra.specs.Ring.{CommRing, pow}
use Rattle.algebra.specs.Polynomial.{eval, add, quotient_in, remainder_in, quotient, remainder}
use Rattle.algebra.proofs.Solver.{◌:+◌, ◌:-◌, ◌:*◌, :-◌, :0, :1, ◌:=◌, ◌⊙◌, ◌from◌, ring_by}
use Rattle.algebra.proofs.PolynomialLaws.{eval_add, eval_split, eval-replicate-zero, length-add}

module _ {A : Type 0} (R : CommRing A) where
  open R use {𝟘, 𝟙, ◌⊕◌, ◌⊗◌, neg}

  infixl 75 ◌⊕◌
  infixl 80 ◌⊗◌
  length-quotient_in : (k n : ℕ) (f : List A) → 0 < n → length f ≤ k → length (quotient_in R k n f) ≡ length f - n
  length-quotient_in zero n f pos le = omega arith
  length-quotient_in (suc k) n f pos le =
      let d : length (drop n f) ≡ length f - n = length-drop n f in
      omega (arith, length-add R (drop n f) (quotient_in R k n (drop n f)), length-quotient_in k n (drop n f) pos (omega arith))

  length-remainder_in : (k n : ℕ) (f : List A) → length (remainder_in R k n f) ≡ n
  length-remainder_in zero n f = length-replicate n 𝟘
  length-remainder_in (suc k) n f =
      omega (arith, length-add R (take n f) (remainder_in R k n (drop n f)), length-take n f, length-remainder_in k n (drop n f))

  division_in : (k n : ℕ) (f : List A) (x : A) → 0 < n → length f ≤ k
      → eval R f x ≡ eval R (quotient_in R k n f) x ⊗ (pow R x n ⊕ neg 𝟙) ⊕ eval R (remainder_in R k n f) x
  division_in zero n [] x pos le = ring_by R (pow R x n ∷ eval R (remainder_in R 0 n []) x ∷ [])
      (λ p r. :0 := :0 :* (p :- :1) :+ r from ((:- :1) ⊙ (r := :0)) ∷ []) (eval-replicate-zero R n x, tt) tt
  division_in zero n (a ∷ f) x pos le = absurd (omega arith)
  division_in (suc k) n f x pos le =
      let low : List A = take n f in
      let high : List A = drop n f in
      let q : List A = quotient_in R k n high in
      let r : List A = remainder_in R k n high in
      ring_by R
      (eval R f x ∷ pow R x n ∷ eval R low x ∷ eval R high x ∷ eval R q x ∷ eval R r x ∷ eval R (add R high q) x ∷ eval R (add R low r) x ∷ [])
      (λ f p low high q r q' r'. f := q' :* (p :- :1) :+ r' from
      (:1 ⊙ (f := low :+ p :* high)) ∷ (:1 ⊙ (high := q :* (p :- :1) :+ r)) ∷ ((:1 :- p) ⊙ (q' := high :+ q)) ∷ ((:- :1) ⊙ (r' := low :+ r)) ∷ [])
      (eval_split R n f x, (division_in k n high x pos (omega (arith, length-drop n f)), (eval_add R high q x, (eval_add R low r x, tt)))) tt

  pub length-quotient : (n : ℕ) (f : List A) → 0 < n → length (quotient R n f) ≡ length f - n
  length-quotient n f pos = length-quotient_in (length f) n f pos (omega arith)

  pub length-remainder : (n : ℕ) (f : List A) → length (remainder R n f) ≡ n
  length-remainder n f = length-remainder_in (length f) n f

  pub division : (n : ℕ) (f : List A) (x : A) → 0 < n
      → eval R f x ≡ eval R (quotient R n f) x ⊗ (pow R x n ⊕ neg 𝟙) ⊕ eval R (remainder R n f) x
  division n f x pos = division_in (length f) n f x pos (omega arith)

  drop-add-short : (n : ℕ) (f h : List A) → length h ≤ n → drop n (add R f h) ≡ drop n f
  drop-add-short n [] h le = drop_of_length-le h le ∙ sym (drop_of_length-le [] {i = n} (omega arith))
  drop-add-short n (a ∷ f) [] le = refl
  drop-add-short zero (a ∷ f) (b ∷ h) le = absurd (omega arith)
  drop-add-short (suc n) (a ∷ f) (b ∷ h) le = drop-add-short n f h (omega arith)

  quotient_in-add-short : (k n : ℕ) (f h : List A) → length h ≤ n → quotient_in R k n (add R f h) ≡ quotient_in R k n f
  quotient_in-add-short zero n f h le = refl
  quotient_in-add-short (suc k) n f h le = ap (λ g. add R g (quotient_in R k n g)) (drop-add-short n f h le)

  -- the quotient of f + h is that of f, where h is not longer than n
  pub quotient-add-short : (n : ℕ) (f h : List A) → length h ≤ n → n ≤ length f → quotient R n (add R f h) ≡ quotient R n f
  quotient-add-short n f h short long =
      let same : length (add R f h) ≡ length f = omega (arith, length-add R f h) in
      ap (λ (k : ℕ). quotient_in R k n (add R f h)) same ∙ quotient_in-add-short (length f) n f h short
