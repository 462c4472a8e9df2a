-- Laws of finite sums in a commutative ring, over the numbers below n and over the members of a list. Assumes nothing.
use mathlib.Core.Path.{◌≡◌, refl, sym, ◌∙◌, ap, ap₂}
use mathlib.Core.Logic.{◌≢◌}
use mathlib.Core.List.{List, [], ◌∷◌, ◌++◌}
use Prim.Native.Nat.{ℕ, zero, suc, ◌≤◌, ◌<◌}
use native.Mathlib.Omega.{arith}
use native.Mathlib.Decide.{ℕ_discrete}
use lib.ListN.{length, get_or}
use Rattle.algebra.specs.Ring.{CommRing, cast, pow}
use Rattle.algebra.specs.Counting.{All}
use Rattle.algebra.specs.Sum.{sum, sum_list}
use Rattle.algebra.proofs.RingLaws.{zero-add, mul-zero, zero-mul, add_add_add_comm}
use Rattle.algebra.proofs.Solver.{◌:+◌, ◌:-◌, ◌:*◌, :0, :1, ◌:=◌, ◌⊙◌, ◌from◌, ring, ring_by}

module _ {A : Type 0} (R : CommRing A) where
  open R use {𝟘, 𝟙, ◌⊕◌, ◌⊗◌, neg, add_assoc, add-zero, mul-add}

  infixl 75 ◌⊕◌
  infixl 80 ◌⊗◌
  pub sum_ext : (n : ℕ) (f g : ℕ → A) → ((i : ℕ) → i < n → f i ≡ g i) → sum R n f ≡ sum R n g
  sum_ext zero f g h = refl
  sum_ext (suc n) f g h = ap₂ ◌⊕◌ (sum_ext n f g (λ i l. h i (omega arith))) (h n (omega arith))

  pub sum-zero : (n : ℕ) → sum R n (λ i. 𝟘) ≡ 𝟘
  sum-zero zero = refl
  sum-zero (suc n) = add-zero (sum R n (λ i. 𝟘)) ∙ sum-zero n

  pub sum-add : (n : ℕ) (f g : ℕ → A) → sum R n (λ i. f i ⊕ g i) ≡ sum R n f ⊕ sum R n g
  sum-add zero f g = sym (add-zero 𝟘)
  sum-add (suc n) f g = ap (λ x. x ⊕ (f n ⊕ g n)) (sum-add n f g) ∙ add_add_add_comm R (sum R n f) (sum R n g) (f n) (g n)

  pub sum-scale : (n : ℕ) (c : A) (f : ℕ → A) → sum R n (λ i. c ⊗ f i) ≡ c ⊗ sum R n f
  sum-scale zero c f = sym (mul-zero R c)
  sum-scale (suc n) c f = ap (λ x. x ⊕ c ⊗ f n) (sum-scale n c f) ∙ sym (mul-add c (sum R n f) (f n))

  pub sum_const : (n : ℕ) (c : A) → sum R n (λ i. c) ≡ cast R n ⊗ c
  sum_const zero c = sym (zero-mul R c)
  sum_const (suc n) c = ring_by R (c ∷ cast R n ∷ sum R n (λ i. c) ∷ []) (λ c k s. s :+ c := (:1 :+ k) :* c from (:1 ⊙ (s := k :* c)) ∷ [])
      (sum_const n c, tt) tt

  pub sum_swap : (m n : ℕ) (f : ℕ → ℕ → A) → sum R m (λ i. sum R n (f i)) ≡ sum R n (λ j. sum R m (λ i. f i j))
  sum_swap zero n f = sym (sum-zero n)
  sum_swap (suc m) n f = ap (λ x. x ⊕ sum R n (f m)) (sum_swap m n f) ∙ sym (sum-add n (λ j. sum R m (λ i. f i j)) (f m))

  -- no term is other than 0
  pub sum-none : (n : ℕ) (f : ℕ → A) → ((i : ℕ) → i < n → f i ≡ 𝟘) → sum R n f ≡ 𝟘
  sum-none n f h = sum_ext n f (λ i. 𝟘) h ∙ sum-zero n

  -- no term but the one at k is other than 0
  pub sum_one : (n k : ℕ) (f : ℕ → A) → k < n → ((i : ℕ) → i < n → i ≢ k → f i ≡ 𝟘) → sum R n f ≡ f k
  sum_one zero k f k<n h = absurd (omega arith)
  sum_one (suc n) k f k<n h = go (ℕ_discrete n k) (sum_one n k f)
    where
      go : Dec (n ≡ k) → (k < n → ((i : ℕ) → i < n → i ≢ k → f i ≡ 𝟘) → sum R n f ≡ f k) → sum R n f ⊕ f n ≡ f k
      go (yes e) rec = ap₂ ◌⊕◌ (sum-none n f (λ i l. h i (omega arith) (omega arith))) (ap f e) ∙ zero-add R (f k)
      go (no ne) rec = ap₂ ◌⊕◌ (rec (omega arith) (λ i l. h i (omega arith))) (h n (omega arith) ne) ∙ add-zero (f k)

  -- the first term taken out
  pub sum_first : (n : ℕ) (f : ℕ → A) → sum R (suc n) f ≡ f 0 ⊕ sum R n (λ i. f (suc i))
  sum_first zero f = zero-add R (f 0) ∙ sym (add-zero (f 0))
  sum_first (suc n) f = ap (λ x. x ⊕ f (suc n)) (sum_first n f) ∙ add_assoc (f 0) (sum R n (λ i. f (suc i))) (f (suc n))

  -- (x - 1) (1 + x + .. + x^(n-1)) = x^n - 1
  pub geometric : (n : ℕ) (x : A) → (x ⊕ neg 𝟙) ⊗ sum R n (pow R x) ≡ pow R x n ⊕ neg 𝟙
  geometric zero x = ring R (x ∷ []) (λ x. (x :- :1) :* :0 := :1 :- :1) tt
  geometric (suc n) x = ring_by R (x ∷ pow R x n ∷ sum R n (pow R x) ∷ [])
      (λ x p s. (x :- :1) :* (s :+ p) := x :* p :- :1 from (:1 ⊙ ((x :- :1) :* s := p :- :1)) ∷ []) (geometric n x, tt) tt

  module _ {T : Type 0} where
    -- functions that are equal at every member
    pub sum_list_ext : (f g : T → A) (l : List T) → All (λ x. f x ≡ g x) l → sum_list R f l ≡ sum_list R g l
    sum_list_ext f g [] h = refl
    sum_list_ext f g (x ∷ l) h = ap₂ ◌⊕◌ h.0 (sum_list_ext f g l h.1)

    -- no member's term is other than 0
    pub sum_list-none : (f : T → A) (l : List T) → All (λ x. f x ≡ 𝟘) l → sum_list R f l ≡ 𝟘
    sum_list-none f [] h = refl
    sum_list-none f (x ∷ l) h = ap₂ ◌⊕◌ h.0 (sum_list-none f l h.1) ∙ add-zero 𝟘

    pub sum_list-scale : (c : A) (f : T → A) (l : List T) → sum_list R (λ x. c ⊗ f x) l ≡ c ⊗ sum_list R f l
    sum_list-scale c f [] = sym (mul-zero R c)
    sum_list-scale c f (x ∷ l) = ap (λ s. c ⊗ f x ⊕ s) (sum_list-scale c f l) ∙ sym (mul-add c (f x) (sum_list R f l))

    pub sum_list_append : (f : T → A) (l k : List T) → sum_list R f (l ++ k) ≡ sum_list R f l ⊕ sum_list R f k
    sum_list_append f [] k = sym (zero-add R (sum_list R f k))
    sum_list_append f (x ∷ l) k = ap (λ s. f x ⊕ s) (sum_list_append f l k) ∙ sym (add_assoc (f x) (sum_list R f l) (sum_list R f k))

    pub sum-sum_list : (n : ℕ) (f : T → ℕ → A) (l : List T) → sum R n (λ i. sum_list R (λ x. f x i) l) ≡ sum_list R (λ x. sum R n (f x)) l
    sum-sum_list n f [] = sum-zero n
    sum-sum_list n f (x ∷ l) = sum-add n (f x) (λ i. sum_list R (λ y. f y i) l) ∙ ap (λ s. sum R n (f x) ⊕ s) (sum-sum_list n f l)

    -- a sum whose terms are those of a list, and 0 after its end
    pub sum-of-list : (g : T → A) (d : T) (l : List T) (n : ℕ) (f : ℕ → A) → length l ≤ n
        → ((i : ℕ) → i < length l → f i ≡ g (get_or l i d)) → ((i : ℕ) → length l ≤ i → i < n → f i ≡ 𝟘) → sum R n f ≡ sum_list R g l
    sum-of-list g d [] n f short within after = sum-none n f (λ i below. after i (omega arith) below)
    sum-of-list g d (x ∷ l) zero f short within after = absurd (omega arith)
    sum-of-list g d (x ∷ l) (suc n) f short within after =
        sum_first n f
        ∙ ap₂ ◌⊕◌ (within 0 (omega arith))
        (sum-of-list g d l n (λ i. f (suc i)) (omega arith) (λ i below. within (suc i) (omega arith))
        (λ i end below. after (suc i) (omega arith) (omega arith)))
