-- The transform by halves gives the values of a polynomial of length 2^k at the 2^k powers of w, where w^(2^(k-1)) = -1: so where w has
-- order 2^k and the ring has no zero divisors. Also the even and the odd positions of a list. Assumes nothing.
use mathlib.Core.Path.{◌≡◌, refl, sym, ap, ap₂, ◌∙◌}
use mathlib.Core.Logic.{◌≢◌}
use mathlib.Core.List.{List, [], ◌∷◌, ◌++◌}
use Prim.Native.Nat.{ℕ, zero, suc, ◌+◌, ◌^◌, ◌<◌}
use native.Mathlib.Omega.{arith}
use native.Mathlib.Nat.{pow-suc}
use lib.Pow.{pow_pos}
use lib.ListN.{length, get_or}
use Rattle.algebra.specs.Lists.{tabulate}
use Rattle.algebra.specs.Ring.{CommRing, pow, Order}
use Rattle.algebra.specs.Polynomial.{eval}
use Rattle.algebra.specs.Halving.{evens, odds, join, transform}
use Rattle.algebra.proofs.RingLaws.{sub_zero→eq, pow-add, mul-pow}
use Rattle.algebra.proofs.Solver.{◌:+◌, ◌:-◌, ◌:*◌, :-◌, :0, :1, ◌:=◌, ◌⊙◌, ◌from◌, ring, ring_by}
use Rattle.algebra.proofs.PolynomialLaws.{get_d_tabulate}
use Rattle.algebra.proofs.ListLaws.{tabulate_ext, tabulate_append}

pub twice : (k : ℕ) → 2 ^ suc k ≡ 2 ^ k + 2 ^ k
twice k = pow-suc 2 k ∙ omega arith

module _ {A : Type 0} where
  length-evens : (n : ℕ) (f : List A) → length f ≡ n + n → length (evens f) ≡ n
  length-evens zero [] e = refl
  length-evens (suc n) [] e = absurd (omega arith)
  length-evens n (a ∷ []) e = absurd (omega arith)
  length-evens zero (a ∷ (b ∷ f)) e = absurd (omega arith)
  length-evens (suc n) (a ∷ (b ∷ f)) e = ap suc (length-evens n f (omega arith))

  length-odds : (n : ℕ) (f : List A) → length f ≡ n + n → length (odds f) ≡ n
  length-odds zero [] e = refl
  length-odds (suc n) [] e = absurd (omega arith)
  length-odds n (a ∷ []) e = absurd (omega arith)
  length-odds zero (a ∷ (b ∷ f)) e = absurd (omega arith)
  length-odds (suc n) (a ∷ (b ∷ f)) e = ap suc (length-odds n f (omega arith))

  pub evens-tabulate : (n : ℕ) (f : ℕ → A) → evens (tabulate (n + n) f) ≡ tabulate n (λ i. f (i + i))
  evens-tabulate zero f = refl
  evens-tabulate (suc n) f =
      let e : suc n + suc n ≡ suc (suc (n + n)) = omega arith in
      ap (λ m. evens (tabulate m f)) e
      ∙ ap (λ l. f 0 ∷ l)
      (evens-tabulate n (λ i. f (suc (suc i)))
      ∙ tabulate_ext n _ _ (λ i l. let e : suc (suc (i + i)) ≡ suc i + suc i = omega arith in ap f e))

  pub odds-tabulate : (n : ℕ) (f : ℕ → A) → odds (tabulate (n + n) f) ≡ tabulate n (λ i. f (i + i + 1))
  odds-tabulate zero f = refl
  odds-tabulate (suc n) f =
      let e : suc n + suc n ≡ suc (suc (n + n)) = omega arith in
      ap (λ m. odds (tabulate m f)) e
      ∙ ap (λ l. f 1 ∷ l)
      (odds-tabulate n (λ i. f (suc (suc i)))
      ∙ tabulate_ext n _ _ (λ i l. let e : suc (suc (i + i + 1)) ≡ suc i + suc i + 1 = omega arith in ap f e))

module _ {A : Type 0} (R : CommRing A) where
  open R use {𝟘, 𝟙, ◌⊕◌, ◌⊗◌, neg}

  infixl 75 ◌⊕◌
  infixl 80 ◌⊗◌
  -- f(x) = e(x²) + x·o(x²)
  eval_halves : (f : List A) (x : A) → eval R f x ≡ eval R (evens f) (x ⊗ x) ⊕ x ⊗ eval R (odds f) (x ⊗ x)
  eval_halves [] x = ring R (x ∷ []) (λ x. :0 := :0 :+ x :* :0) tt
  eval_halves (a ∷ []) x = ring R (a ∷ x ∷ []) (λ a x. a :+ x :* :0 := a :+ x :* x :* :0 :+ x :* :0) tt
  eval_halves (a ∷ (b ∷ f)) x = ring_by R (a ∷ b ∷ x ∷ eval R f x ∷ eval R (evens f) (x ⊗ x) ∷ eval R (odds f) (x ⊗ x) ∷ [])
      (λ a b x f e o. a :+ x :* (b :+ x :* f) := a :+ x :* x :* e :+ x :* (b :+ x :* x :* o) from ((x :* x) ⊙ (f := e :+ x :* o)) ∷ [])
      (eval_halves f x, tt) tt

  -- (w^i)² = (w²)^i
  square-power : (w : A) (i : ℕ) → pow R w i ⊗ pow R w i ≡ pow R (w ⊗ w) i
  square-power w i = sym (mul-pow R w w i)

  -- half a turn before 1: w^(2^(k-1)) = -1; nothing for k = 0
  abbrev pub HalfTurn : ℕ → A → Type 0
  HalfTurn zero w = Unit {0}
  HalfTurn (suc k) w = pow R w (2 ^ k) ≡ neg 𝟙

  half_turn_square : (k : ℕ) (w : A) → HalfTurn (suc k) w → HalfTurn k (w ⊗ w)
  half_turn_square zero w h = tt
  half_turn_square (suc k) w h = sym (square-power w (2 ^ k)) ∙ sym (pow-add R w (2 ^ k) (2 ^ k)) ∙ ap (pow R w) (sym (twice k)) ∙ h

  -- an element of order 2^k: its power by half of that squares to 1 and is not 1
  pub order_half_turn : ((a b : A) → a ⊗ b ≡ 𝟘 → a ≢ 𝟘 → b ≡ 𝟘) → (k : ℕ) (w : A) → Order R (2 ^ k) w → HalfTurn k w
  order_half_turn nzd zero w order = tt
  order_half_turn nzd (suc k) w order =
      sub_zero→eq R h (neg 𝟙) (ring R (h ∷ []) (λ h. h :- (:- :1) := h :+ :1) tt ∙ nzd (h ⊕ neg 𝟙) (h ⊕ 𝟙) product apart)
    where
      h : A
      h = pow R w (2 ^ k)

      square : h ⊗ h ≡ 𝟙
      square = sym (pow-add R w (2 ^ k) (2 ^ k)) ∙ ap (pow R w) (sym (twice k)) ∙ order.full

      product : (h ⊕ neg 𝟙) ⊗ (h ⊕ 𝟙) ≡ 𝟘
      product = ring_by R (h ∷ []) (λ h. (h :- :1) :* (h :+ :1) := :0 from (:1 ⊙ (h :* h := :1)) ∷ []) (square, tt) tt

      apart : h ⊕ neg 𝟙 ≢ 𝟘
      apart e = order.first (2 ^ k) (pow_pos k) (omega (arith, twice k, pow_pos k)) (sub_zero→eq R h 𝟙 e)

  -- the inverse of an element at half a turn is at half a turn
  pub inverse_half_turn : (k : ℕ) (v w : A) → pow R v (2 ^ k) ⊗ pow R w (2 ^ k) ≡ 𝟙 → HalfTurn (suc k) w → HalfTurn (suc k) v
  inverse_half_turn k v w product turn =
      ring_by R (pow R v (2 ^ k) ∷ pow R w (2 ^ k) ∷ [])
      (λ v w. v := :- :1 from ((:- :1) ⊙ (v :* w := :1)) ∷ (v ⊙ (w := :- :1)) ∷ []) (product, (turn, tt)) tt

  -- the values of f at the 2n powers of w, from those of its even and its odd part at the n powers of w²
  values-joined : (n : ℕ) (w : A) → pow R w n ≡ neg 𝟙 → (f : List A)
      → join R n w (tabulate n (λ i. eval R (evens f) (pow R (w ⊗ w) i))) (tabulate n (λ i. eval R (odds f) (pow R (w ⊗ w) i)))
      ≡ tabulate (n + n) (λ i. eval R f (pow R w i))
  unfolding join
  values-joined n w turn f =
      ap₂ ◌++◌ (tabulate_ext n _ _ first) (tabulate_ext n _ _ second) ∙ tabulate_append n n (λ i. eval R f (pow R w i))
    where
      even : ℕ → A
      even i = eval R (evens f) (pow R (w ⊗ w) i)

      odd : ℕ → A
      odd i = eval R (odds f) (pow R (w ⊗ w) i)

      -- at x where x² = (w²)^i
      at : (i : ℕ) (x : A) → x ⊗ x ≡ pow R (w ⊗ w) i → eval R f x ≡ even i ⊕ x ⊗ odd i
      at i x e = eval_halves f x ∙ ap (λ y. eval R (evens f) y ⊕ x ⊗ eval R (odds f) y) e

      first : (i : ℕ) → i < n → get_or (tabulate n even) i 𝟘 ⊕ pow R w i ⊗ get_or (tabulate n odd) i 𝟘 ≡ eval R f (pow R w i)
      first i l = ap₂ (λ e o. e ⊕ pow R w i ⊗ o) (get_d_tabulate n i even 𝟘 l) (get_d_tabulate n i odd 𝟘 l)
          ∙ sym (at i (pow R w i) (square-power w i))

      second : (i : ℕ) → i < n → get_or (tabulate n even) i 𝟘 ⊕ neg (pow R w i ⊗ get_or (tabulate n odd) i 𝟘) ≡ eval R f (pow R w (n + i))
      second i l =
          ap₂ (λ e o. e ⊕ neg (pow R w i ⊗ o)) (get_d_tabulate n i even 𝟘 l) (get_d_tabulate n i odd 𝟘 l)
          ∙ ring R (even i ∷ odd i ∷ pow R w i ∷ []) (λ e o p. e :- p :* o := e :+ (:- :1) :* p :* o) tt
          ∙ sym (at i (neg 𝟙 ⊗ pow R w i)
          (ring R (pow R w i ∷ []) (λ p. (:- :1) :* p :* ((:- :1) :* p) := p :* p) tt ∙ square-power w i))
          ∙ ap (λ t. eval R f (t ⊗ pow R w i)) (sym turn) ∙ ap (eval R f) (sym (pow-add R w n i))

  pub transform-values : (k : ℕ) (w : A) → HalfTurn k w → (f : List A) → length f ≡ 2 ^ k
      → transform R k w f ≡ tabulate (2 ^ k) (λ i. eval R f (pow R w i))
  unfolding transform
  transform-values zero w h [] e = absurd (omega arith)
  transform-values zero w h (a ∷ []) e = ap (λ (x : A). x ∷ []) (ring R (a ∷ []) (λ a. a := a :+ :1 :* :0) tt)
  transform-values zero w h (a ∷ (b ∷ f)) e = absurd (omega arith)
  transform-values (suc k) w h f e =
      let halves : length f ≡ 2 ^ k + 2 ^ k = e ∙ twice k in
      ap₂ (join R (2 ^ k) w)
      (transform-values k (w ⊗ w) (half_turn_square k w h) (evens f) (length-evens (2 ^ k) f halves))
      (transform-values k (w ⊗ w) (half_turn_square k w h) (odds f) (length-odds (2 ^ k) f halves))
      ∙ values-joined (2 ^ k) w h f ∙ ap (λ n. tabulate n (λ i. eval R f (pow R w i))) (sym (twice k))
