-- The coefficients of sums, multiples, quotients and remainders of polynomials; an entry past the end is 0.
-- Assumes nothing.
use Rattle.std.proofs.Common.{◌≡◌, refl, sym, ap, ap₂, ◌∙◌, List, [], ◌∷◌, ℕ, zero, suc, ◌+◌, ◌≤◌, ◌<◌, arith, length, get_or, take, drop, length-drop, get_or-take, get_or-drop, drop-drop}
use lib.ListN.{get_or-replicate, get_or-eq_default}
use lib.Seq.{take-nil, drop-nil}
use Rattle.algebra.specs.Ring.{CommRing}
use Rattle.algebra.specs.Polynomial.{add, scale, quotient_in, remainder_in, quotient, remainder}
use Rattle.algebra.proofs.Division.{length-quotient}
use Rattle.algebra.proofs.RingLaws.{zero-add, mul-zero}
use Rattle.algebra.proofs.Solver.{◌:+◌, ◌:*◌, ◌:=◌, ring}
use Rattle.algebra.proofs.PolynomialLaws.{length-add, length-scale}
use Rattle.domain.proofs.ListLaws.{equal-entries}

module _ {A : Type 0} (R : CommRing A) where
  open R use {𝟘, ◌⊕◌, ◌⊗◌, add-zero}

  infixl 75 ◌⊕◌
  infixl 80 ◌⊗◌
  pub coefficient_add : (f g : List A) (i : ℕ) → get_or (add R f g) i 𝟘 ≡ get_or f i 𝟘 ⊕ get_or g i 𝟘
  coefficient_add [] g i = sym (zero-add R (get_or g i 𝟘))
  coefficient_add (a ∷ f) [] i = sym (add-zero (get_or (a ∷ f) i 𝟘))
  coefficient_add (a ∷ f) (b ∷ g) zero = refl
  coefficient_add (a ∷ f) (b ∷ g) (suc i) = coefficient_add f g i

  pub coefficient_scale : (k : A) (f : List A) (i : ℕ) → get_or (scale R k f) i 𝟘 ≡ k ⊗ get_or f i 𝟘
  coefficient_scale k [] i = sym (mul-zero R k)
  coefficient_scale k (a ∷ f) zero = refl
  coefficient_scale k (a ∷ f) (suc i) = coefficient_scale k f i

  module _ (n : ℕ) (positive : 0 < n) where
    drop_swap : (m : ℕ) (f : List A) → drop n (drop m f) ≡ drop m (drop n f)
    drop_swap m f =
        let e : m + n ≡ n + m = omega arith in
        drop-drop n m f ∙ ap (λ (k : ℕ). drop k f) e ∙ sym (drop-drop m n f)

    shorter : (k : ℕ) (f : List A) → length f ≤ suc k → length (drop n f) ≤ k
    shorter k f le = omega (arith, length-drop n f)

    -- any bound on the turns that is not below the length gives the same
    quotient_turns : (k l : ℕ) (f : List A) → length f ≤ k → length f ≤ l → quotient_in R k n f ≡ quotient_in R l n f
    quotient_turns zero zero f le-k le_l = refl
    quotient_turns zero (suc l) [] le-k le_l =
        sym (ap (λ (g : List A). add R g (quotient_in R l n g)) (drop-nil n) ∙ sym (quotient_turns zero l [] le-k (omega arith)))
    quotient_turns zero (suc l) (a ∷ f) le-k le_l = absurd (omega arith)
    quotient_turns (suc k) zero [] le-k le_l =
        ap (λ (g : List A). add R g (quotient_in R k n g)) (drop-nil n) ∙ quotient_turns k zero [] (omega arith) le_l
    quotient_turns (suc k) zero (a ∷ f) le-k le_l = absurd (omega arith)
    quotient_turns (suc k) (suc l) f le-k le_l =
        ap (add R (drop n f)) (quotient_turns k l (drop n f) (shorter k f le-k) (shorter l f le_l))

    remainder_turns : (k l : ℕ) (f : List A) → length f ≤ k → length f ≤ l → remainder_in R k n f ≡ remainder_in R l n f
    remainder_turns zero zero f le-k le_l = refl
    remainder_turns zero (suc l) [] le-k le_l =
        sym (ap₂ (λ (g h : List A). add R g (remainder_in R l n h)) (take-nil n) (drop-nil n)
        ∙ sym (remainder_turns zero l [] le-k (omega arith)))
    remainder_turns zero (suc l) (a ∷ f) le-k le_l = absurd (omega arith)
    remainder_turns (suc k) zero [] le-k le_l =
        ap₂ (λ (g h : List A). add R g (remainder_in R k n h)) (take-nil n) (drop-nil n) ∙ remainder_turns k zero [] (omega arith) le_l
    remainder_turns (suc k) zero (a ∷ f) le-k le_l = absurd (omega arith)
    remainder_turns (suc k) (suc l) f le-k le_l =
        ap (add R (take n f)) (remainder_turns k l (drop n f) (shorter k f le-k) (shorter l f le_l))

    -- the first m coefficients left out
    quotient-drop : (k m : ℕ) (f : List A) (i : ℕ) → get_or (quotient_in R k n (drop m f)) i 𝟘 ≡ get_or (quotient_in R k n f) (m + i) 𝟘
    quotient-drop zero m f i = refl
    quotient-drop (suc k) m f i =
        let e : m + (n + i) ≡ n + (m + i) = omega arith in
        coefficient_add (drop n (drop m f)) (quotient_in R k n (drop n (drop m f))) i
        ∙ ap₂ ◌⊕◌
        (get_or-drop n (drop m f) i 𝟘 ∙ get_or-drop m f (n + i) 𝟘 ∙ ap (λ (j : ℕ). get_or f j 𝟘) e ∙ sym (get_or-drop n f (m + i) 𝟘))
        (ap (λ (g : List A). get_or (quotient_in R k n g) i 𝟘) (drop_swap m f) ∙ quotient-drop k m (drop n f) i)
        ∙ sym (coefficient_add (drop n f) (quotient_in R k n (drop n f)) (m + i))

    -- q_i = f_(i+n) + q_(i+n)
    pub coefficient_quotient : (f : List A) (i : ℕ) → get_or (quotient R n f) i 𝟘 ≡ get_or f (i + n) 𝟘 ⊕ get_or (quotient R n f) (i + n) 𝟘
    coefficient_quotient f i =
        let e : n + i ≡ i + n = omega arith in
        ap (λ (g : List A). get_or g i 𝟘) (quotient_turns (length f) (suc (length f)) f (omega arith) (omega arith))
        ∙ coefficient_add (drop n f) (quotient_in R (length f) n (drop n f)) i
        ∙ ap₂ ◌⊕◌ (get_or-drop n f i 𝟘 ∙ ap (λ (j : ℕ). get_or f j 𝟘) e)
        (quotient-drop (length f) n f i ∙ ap (λ (j : ℕ). get_or (quotient R n f) j 𝟘) e)

    -- the first n coefficients, and the remainder of the others
    pub remainder_turn : (f : List A) (i : ℕ) → get_or (remainder R n f) i 𝟘 ≡ get_or (take n f) i 𝟘 ⊕ get_or (remainder R n (drop n f)) i 𝟘
    remainder_turn f i =
        ap (λ (g : List A). get_or g i 𝟘) (remainder_turns (length f) (suc (length f)) f (omega arith) (omega arith))
        ∙ coefficient_add (take n f) (remainder_in R (length f) n (drop n f)) i
        ∙ ap (λ (g : List A). get_or (take n f) i 𝟘 ⊕ get_or g i 𝟘)
        (remainder_turns (length f) (length (drop n f)) (drop n f) (omega (arith, length-drop n f)) (omega arith))

    pub remainder_none : (f : List A) (i : ℕ) → length f ≡ 0 → i < n → get_or (remainder R n f) i 𝟘 ≡ 𝟘
    remainder_none f i empty below =
        ap (λ (g : List A). get_or g i 𝟘) (remainder_turns (length f) 0 f (omega arith) (omega arith)) ∙ get_or-replicate n i 𝟘 𝟘 below

    -- the quotient has nothing from where f ends
    quotient_past : (f : List A) (i : ℕ) → length f ≤ i + n → get_or (quotient R n f) i 𝟘 ≡ 𝟘
    quotient_past f i past = get_or-eq_default (quotient R n f) 𝟘 (omega (arith, length-quotient R n f positive))

    -- of at most 2n coefficients: q_i = f_(n+i) and r_i = f_i + f_(n+i)
    pub short-quotient-at : (f : List A) → length f ≤ n + n → (i : ℕ) → get_or (quotient R n f) i 𝟘 ≡ get_or f (n + i) 𝟘
    short-quotient-at f short i =
        let e : i + n ≡ n + i = omega arith in
        coefficient_quotient f i
        ∙ ap (λ x. get_or f (i + n) 𝟘 ⊕ x)
        (quotient_past f (i + n) (omega arith))
        ∙ add-zero (get_or f (i + n) 𝟘) ∙ ap (λ (j : ℕ). get_or f j 𝟘) e

    pub short-remainder-at : (f : List A) → length f ≤ n + n → (i : ℕ) → i < n
        → get_or (remainder R n f) i 𝟘 ≡ get_or f i 𝟘 ⊕ get_or f (n + i) 𝟘
    short-remainder-at f short i below =
        let twice : length (drop n (drop n f)) ≡ 0 = omega (arith, length-drop n f, length-drop n (drop n f)) in
        remainder_turn f i
        ∙ ap₂ ◌⊕◌ (get_or-take n f i 𝟘 below)
        (remainder_turn (drop n f) i
        ∙ ap₂ ◌⊕◌ (get_or-take n (drop n f) i 𝟘 below ∙ get_or-drop n f i 𝟘) (remainder_none (drop n (drop n f)) i twice below)
        ∙ add-zero (get_or f (n + i) 𝟘))

    -- the quotient of f + k·g is k times that of g, where f is not longer than n
    module _ (k : A) (f g : List A) (short : length f ≤ n) where
      multiple_at : (m i : ℕ) → length g ≤ i + m → get_or (quotient R n (add R f (scale R k g))) i 𝟘 ≡ k ⊗ get_or (quotient R n g) i 𝟘
      multiple_at zero i past =
          quotient_past (add R f (scale R k g)) i (omega (arith, length-add R f (scale R k g), length-scale R k g))
          ∙ sym (ap (λ (x : A). k ⊗ x) (quotient_past g i (omega arith)) ∙ mul-zero R k)
      multiple_at (suc m) i past =
          coefficient_quotient (add R f (scale R k g)) i
          ∙ ap₂ ◌⊕◌
          (coefficient_add f (scale R k g) (i + n)
          ∙ ap (λ (x : A). x ⊕ get_or (scale R k g) (i + n) 𝟘) (get_or-eq_default f 𝟘 (omega arith))
          ∙ zero-add R (get_or (scale R k g) (i + n) 𝟘) ∙ coefficient_scale k g (i + n))
          (multiple_at m (i + n) (omega arith))
          ∙ sym (distribute (get_or g (i + n) 𝟘) (get_or (quotient R n g) (i + n) 𝟘))
          ∙ ap (λ (x : A). k ⊗ x) (sym (coefficient_quotient g i))
        where
          distribute : (a b : A) → k ⊗ (a ⊕ b) ≡ k ⊗ a ⊕ k ⊗ b
          distribute a b = ring R (k ∷ a ∷ b ∷ []) (λ k a b. k :* (a :+ b) := k :* a :+ k :* b) tt

      pub quotient-of_multiple : quotient R n (add R f (scale R k g)) ≡ scale R k (quotient R n g)
      quotient-of_multiple =
          equal-entries 𝟘 _ _
          (omega (
            arith,
            length-quotient R n (add R f (scale R k g)) positive,
            length-add R f (scale R k g),
            length-scale R k g,
            length-scale R k (quotient R n g),
            length-quotient R n g positive,
          ))
          (λ i below. multiple_at (length g) i (omega arith) ∙ sym (coefficient_scale k (quotient R n g) i))
