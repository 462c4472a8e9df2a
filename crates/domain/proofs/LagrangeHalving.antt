-- The Lagrange values at y of a domain of 2h elements from those at y² of the domain of h elements: at its element a, with x = y/a, the
-- value is (1 + x)/2 times that of a², and at -a it is what is left of that. Also what a loop that goes down the places has done so
-- far. Assumes nothing.
use mathlib.Core.Path.{◌≡◌, sym, ap, ap₂, ◌∙◌, subst}
use mathlib.Core.Bool.{true}
use mathlib.Core.List.{List, [], ◌∷◌}
use Prim.Native.Nat.{ℕ, zero, suc, ◌+◌, ◌-◌, ◌*◌, ◌/◌, ◌%◌, ◌≤◌, ◌<◌}
use native.Mathlib.Omega.{arith}
use native.Mathlib.Decide.{dec_lt, ℕ_discrete}
use native.Mathlib.Nat.{div-eq_of_eq-mul_right}
use lib.ListN.{length, take, set, get_or, length-set}
use lib.Seq.{get_or-set_same, get_or-set_other, get_or-take, ext_get_or}
use Rattle.algebra.specs.Lists.{tabulate}
use Rattle.algebra.specs.Ring.{CommRing, Order, pow}
use Rattle.algebra.specs.Sum.{sum}
use Rattle.algebra.proofs.RingLaws.{one_mul, pow-add, mul-pow}
use Rattle.algebra.proofs.Solver.{◌:+◌, ◌:-◌, ◌:*◌, :-◌, :0, :1, ◌:=◌, ◌⊙◌, ◌from◌, ring, ring_by}
use Rattle.algebra.proofs.HalvingLaws.{twice, order_half_turn}
use Rattle.field.specs.Prime.{Prime}
use Rattle.field.specs.Element.{Elem, of, 𝟙, ◌⊕◌, ◌⊗◌, ◌⊖◌, neg, words}
use Rattle.field.specs.Power.{reciprocal}
use Rattle.field.proofs.ElementLaws.{prime_ring, of-add, of-p, one_not_zero}
use Rattle.field.proofs.Field.{no_zero_divisors, mul-reciprocal}
use Rattle.domain.specs.Size.{is_size}
use Rattle.domain.specs.Domain.{root, element, lagrange}
use Rattle.domain.specs.Qualifies.{Qualifies}
use Rattle.domain.proofs.SizeLaws.{size_is-power, size_positive, size_not-zero}
use Rattle.domain.proofs.DomainLaws.{domain_order, subgroup_element}
use Rattle.domain.proofs.Lagrange.{lagrange-powers}
use Rattle.domain.proofs.Fill.{length_rule_words, rule_word-at}

-- 1 + x + .. + x^(2h-1) = (1 + x)(1 + x² + .. + x^(2h-2))
sum_halves : {A : Type 0} (R : CommRing A) (h : ℕ) (x : A)
    → sum R (h + h) (pow R x) ≡ R.◌⊗◌ (R.◌⊕◌ R.𝟙 x) (sum R h (pow R (R.◌⊗◌ x x)))
sum_halves R zero x = ring R (x ∷ []) (λ x. :0 := (:1 :+ x) :* :0) tt
sum_halves R (suc h) x =
    let e : suc h + suc h ≡ suc (suc (h + h)) = omega arith in
    ap (λ m. sum R m (pow R x)) e
    ∙ ring_by R (x ∷ sum R (h + h) (pow R x) ∷ sum R h (pow R (R.◌⊗◌ x x)) ∷ pow R x (h + h) ∷ pow R (R.◌⊗◌ x x) h ∷ [])
    (λ x s t u v. s :+ u :+ x :* u := (:1 :+ x) :* (t :+ v) from (:1 ⊙ (s := (:1 :+ x) :* t)) ∷ ((:1 :+ x) ⊙ (u := v)) ∷ [])
    (sum_halves R h x, (pow-add R x h h ∙ sym (mul-pow R x x h), tt)) tt

-- 1/2 of an odd prime p = 2m + 1 is m + 1, and m is -1/2
module _ (q : Prime) where
  odd : q.p % 2 ≡ 1
  odd = elim (ℕ_discrete (q.p % 2) 0) [ yes e ↦ absurd (q.undivided 2 (omega arith) q.above_two e) | no ne ↦ omega arith ]

  pub half_twice : of {q = q} (q.p / 2 + 1) ⊕ of (q.p / 2 + 1) ≡ 𝟙
  half_twice =
      let e : q.p / 2 + 1 + (q.p / 2 + 1) ≡ q.p + 1 = omega (arith, odd) in
      sym (of-add (q.p / 2 + 1) (q.p / 2 + 1)) ∙ ap of e ∙ of-add q.p 1 ∙ ap (λ (x : Elem q). x ⊕ 𝟙) of-p
      ∙ ring (prime_ring q) [] (:0 :+ :1 := :1) tt

  pub half_below : q.p / 2 + 1 < q.p
  half_below = omega (arith, odd, q.above_two)

  -- y times m, for the step that begins at -1
  pub half_begins : (y : Elem q) → y ⊗ of (q.p / 2) ≡ of (q.p / 2 + 1) ⊗ (neg 𝟙 ⊗ y)
  half_begins y =
      ring_by (prime_ring q) (y ∷ of (q.p / 2) ∷ of (q.p / 2 + 1) ∷ [])
      (λ y m s. y :* m := s :* ((:- :1) :* y) from ((:- y) ⊙ (s := m :+ :1)) ∷ (y ⊙ (s :+ s := :1)) ∷ [])
      (of-add (q.p / 2) 1, (half_twice, tt)) tt

-- L at element i of the domain of size n
abbrev pub lagrange_at : {q : Prime} → ℕ → Elem q → ℕ → Elem q
lagrange_at n y i = lagrange n (element n i) y

-- the domain of size 1
pub lagrange_one : {q : Prime} → Qualifies q → (s : is_size 1 ≡ true) → (y : Elem q) → lagrange_at 1 y 0 ≡ 𝟙
lagrange_one {q} Q s y =
    lagrange-powers Q 1 s 0 (omega arith) y
    ∙ ring_by (prime_ring q) (reciprocal (of 1) ∷ []) (λ r. (:0 :+ :1) :* r := :1 from (:1 ⊙ (:1 :* r := :1)) ∷ [])
    (mul-reciprocal 𝟙 one_not_zero, tt) tt

module _ {q : Prime} (Q : Qualifies q) (h : ℕ) (s : is_size h ≡ true) (t : is_size (h + h) ≡ true) where
  abbrev R : CommRing (Elem q)
  R = prime_ring q

  abbrev n : ℕ
  n = h + h

  half_turn : element {q = q} n h ≡ neg 𝟙
  unfolding element
  half_turn =
      let (k, l, e) = size_is-power h s in
      ap (pow R (root n)) e
      ∙ order_half_turn R (no_zero_divisors q) (suc k) (root n)
      (subst (λ (m : ℕ). Order R m (root n)) (ap₂ ◌+◌ e e ∙ sym (twice k)) (domain_order Q n t))

  square-element : (i : ℕ) → element {q = q} n i ⊗ element n i ≡ element h i
  unfolding element
  square-element i =
      let two : n / h ≡ 2 = div-eq_of_eq-mul_right (size_positive h s) (omega arith) in
      let e : i + i ≡ i * 2 = omega arith in
      sym (pow-add R (root n) i i) ∙ ap (pow R (root n)) (e ∙ ap (λ m. i * m) (sym two)) ∙ sym (subgroup_element Q h n s t (omega arith) i)

  -- the place i and the place h + i
  element_past : (i : ℕ) → element {q = q} n (h + i) ≡ neg 𝟙 ⊗ element n i
  unfolding element
  element_past i = pow-add R (root n) h i ∙ ap (λ x. x ⊗ element n i) half_turn

  element_again : (i : ℕ) → element {q = q} h (h + i) ≡ element h i
  unfolding element
  element_again i = pow-add R (root h) h i ∙ ap (λ x. x ⊗ element h i) (domain_order Q h s).full ∙ one_mul R _

  module _ (share : Elem q) (two : share ⊕ share ≡ 𝟙) where
    -- 1/n = 1/2 · 1/h
    reciprocal_half : reciprocal (of {q = q} n) ≡ share ⊗ reciprocal (of h)
    reciprocal_half =
        ring_by R (of n ∷ of h ∷ reciprocal (of n) ∷ reciprocal (of h) ∷ share ∷ [])
        (λ n m d r s. d := s :* r from
        ((s :* r) ⊙ (n :* d := :1)) ∷ ((:- (s :* r :* d)) ⊙ (n := m :+ m)) ∷ ((:- ((s :+ s) :* d)) ⊙ (m :* r := :1))
        ∷ ((:- d) ⊙ (s :+ s := :1)) ∷ [])
        (mul-reciprocal (of n) (size_not-zero n t), (of-add h h, (mul-reciprocal (of h) (size_not-zero h s), (two, tt)))) tt

    -- for b = 1/a with b² = 1/a²
    doubled : (i j : ℕ) → i < h → j < n → element {q = q} n (n - j) ⊗ element n (n - j) ≡ element h (h - i) → (y : Elem q)
        → lagrange_at n y j ≡ lagrange_at h (y ⊗ y) i ⊗ (share ⊗ (element n (n - j) ⊗ y) ⊕ share)
    doubled i j i<h j<n e y =
        let b : Elem q = element n (n - j) in
        let c : Elem q = element h (h - i) in
        let square : (b ⊗ y) ⊗ (b ⊗ y) ≡ c ⊗ (y ⊗ y) =
        ring_by R (b ∷ y ∷ c ∷ []) (λ b y c. (b :* y) :* (b :* y) := c :* (y :* y) from ((y :* y) ⊙ (b :* b := c)) ∷ []) (e, tt) tt in
        let small : Elem q = sum R h (pow R (c ⊗ (y ⊗ y))) in
        let large : Elem q = sum R n (pow R (b ⊗ y)) in
        lagrange-powers Q n t j j<n y
        ∙ ring_by R (b ∷ y ∷ large ∷ small ∷ reciprocal (of n) ∷ reciprocal (of h) ∷ share ∷ [])
        (λ b y l m d r s. l :* d := m :* r :* (s :* (b :* y) :+ s) from
        (d ⊙ (l := (:1 :+ b :* y) :* m)) ∷ (((:1 :+ b :* y) :* m) ⊙ (d := s :* r)) ∷ [])
        (sum_halves R h (b ⊗ y) ∙ ap (λ x. (𝟙 ⊕ b ⊗ y) ⊗ sum R h (pow R x)) square, (reciprocal_half, tt)) tt
        ∙ ap (λ x. x ⊗ (share ⊗ (b ⊗ y) ⊕ share)) (sym (lagrange-powers Q h s i i<h (y ⊗ y)))

    module _ (i : ℕ) (i<h : i < h) (y : Elem q) where
      past : n - i ≡ h + (h - i)
      past = omega arith

      -- at a
      pub lagrange_low : lagrange_at n y i ≡ lagrange_at h (y ⊗ y) i ⊗ (share ⊗ (element n (n - i) ⊗ y) ⊕ share)
      lagrange_low = doubled i i i<h (omega arith)
          (square-element (n - i) ∙ ap (element h) past ∙ element_again (h - i)) y

      -- at -a
      pub lagrange_high : lagrange_at n y (h + i) ≡ lagrange_at h (y ⊗ y) i ⊖ lagrange_at n y i
      lagrange_high =
          let c : Elem q = element n (n - (h + i)) in
          let less : n - (h + i) ≡ h - i = omega arith in
          let opposite : element n (n - i) ≡ neg 𝟙 ⊗ c =
          ap (element n) past ∙ element_past (h - i) ∙ ap (λ k. neg 𝟙 ⊗ element n k) (sym less) in
          ring_by R
          (lagrange_at n y (h + i) ∷ lagrange_at h (y ⊗ y) i ∷ lagrange_at n y i ∷ c ∷ element n (n - i) ∷ share ∷ y ∷ [])
          (λ u w l c b s y. u := w :- l from
          (:1 ⊙ (u := w :* (s :* (c :* y) :+ s))) ∷ (:1 ⊙ (l := w :* (s :* (b :* y) :+ s))) ∷ ((w :* s :* y) ⊙ (b := (:- :1) :* c))
          ∷ (w ⊙ (s :+ s := :1)) ∷ []) (
            doubled i (h + i) i<h (omega arith) (ap (λ k. element n k ⊗ element n k) less ∙ square-element (h - i)) y,
            (lagrange_low, (opposite, (two, tt))),
          ) tt

-- x/2 at place i of the domain of size n, for x = y/a
abbrev pub half_quotient : {q : Prime} → ℕ → Elem q → ℕ → Elem q
half_quotient {q} n y i = of (q.p / 2 + 1) ⊗ (element n (n - i) ⊗ y)

module _ {q : Prime} (Q : Qualifies q) (h : ℕ) (s : is_size h ≡ true) (t : is_size (h + h) ≡ true) (y : Elem q) where
  -- at place h, where a is -1, and one place down
  pub quotient-begins : y ⊗ of (q.p / 2) ≡ half_quotient (h + h) y h
  quotient-begins =
      let e : h + h - h ≡ h = omega arith in
      half_begins q y ∙ ap (λ x. of (q.p / 2 + 1) ⊗ (x ⊗ y)) (sym (ap (element (h + h)) e ∙ half_turn Q h s t))

  pub quotient_turn : (i : ℕ) → i < h → half_quotient (h + h) y (suc i) ⊗ root (h + h) ≡ half_quotient (h + h) y i
  unfolding element
  quotient_turn i i<h =
      let e : suc (h + h - suc i) ≡ h + h - i = omega arith in
      ring (prime_ring q) (of (q.p / 2 + 1) ∷ element (h + h) (h + h - suc i) ∷ y ∷ root (h + h) ∷ [])
      (λ m b y g. m :* (b :* y) :* g := m :* ((g :* b) :* y)) tt
      ∙ ap (λ k. of (q.p / 2 + 1) ⊗ (element (h + h) k ⊗ y)) e

-- A loop from place h - 1 down, which has come to place i: the places below i still have the values of size h, the others those of size
-- 2h, and so have the places as far in the second half.
pub record Doubling {q : Prime} (h : ℕ) (y : Elem q) (l : List ℕ) (i : ℕ) : Type 0 where
  pub rest : (k : ℕ) → k < i → get_or l k 0 ≡ (lagrange_at h (y ⊗ y) k).word
  pub low : (k : ℕ) → i ≤ k → k < h → get_or l k 0 ≡ (lagrange_at (h + h) y k).word
  pub high : (k : ℕ) → i ≤ k → k < h → get_or l (h + k) 0 ≡ (lagrange_at (h + h) y (h + k)).word

module _ {q : Prime} (h : ℕ) (y : Elem q) (l : List ℕ) (two : length l ≡ h + h) where
  pub doubling_none : take h l ≡ words (tabulate h (lagrange_at h (y ⊗ y))) → Doubling h y l h
  doubling_none e =
      record {
        rest = λ k k<h. sym (get_or-take h l k 0 k<h) ∙ ap (λ (m : List ℕ). get_or m k 0) e ∙ rule_word-at h (lagrange_at h (y ⊗ y)) k k<h;
        low = λ k le k<h. absurd (omega arith);
        high = λ k le k<h. absurd (omega arith);
      }

  pub doubling_turn : (i a b : ℕ) → i < h → Doubling h y l (suc i) → a ≡ (lagrange_at (h + h) y i).word
      → b ≡ (lagrange_at (h + h) y (h + i)).word → Doubling h y (set (set l i a) (h + i) b) i
  doubling_turn i a b i<h d is-low is-high =
      record {
        rest = λ k k<i. kept k (omega arith) (omega arith) ∙ d.rest k (omega arith);
        low = λ k le k<h. elim (ℕ_discrete k i) [
          | yes e ↦
              ap (λ (k : ℕ). get_or stored k 0) e ∙ get_or-set_other (set l i a) (h + i) i b 0 (λ e. omega arith)
              ∙ get_or-set_same l i a 0 (omega arith) ∙ is-low ∙ ap (λ (k : ℕ). (lagrange_at (h + h) y k).word) (sym e)
          | no ne ↦ kept k ne (omega arith) ∙ d.low k (omega arith) k<h
        ];
        high = λ k le k<h. elim (ℕ_discrete k i) [
          | yes e ↦
              ap (λ (k : ℕ). get_or stored (h + k) 0) e ∙ get_or-set_same (set l i a) (h + i) b 0 (omega (arith, length-set l i a)) ∙ is-high
              ∙ ap (λ (k : ℕ). (lagrange_at (h + h) y (h + k)).word) (sym e)
          | no ne ↦ kept (h + k) (omega arith) (omega arith) ∙ d.high k (omega arith) k<h
        ];
      }
    where
      stored : List ℕ
      stored = set (set l i a) (h + i) b

      kept : (k : ℕ) → (k ≡ i → ⊥) → (k ≡ h + i → ⊥) → get_or stored k 0 ≡ get_or l k 0
      kept k other far = get_or-set_other (set l i a) (h + i) k b 0 far ∙ get_or-set_other l i k a 0 other

  pub doubling_end : Doubling h y l 0 → l ≡ words (tabulate (h + h) (lagrange_at (h + h) y))
  doubling_end d = ext_get_or 0 l _ (two ∙ sym (length_rule_words (h + h) (lagrange_at (h + h) y))) (λ k k<n.
      at k (omega arith) ∙ sym (rule_word-at (h + h) (lagrange_at (h + h) y) k (omega arith)))
    where
      at : (k : ℕ) → k < h + h → get_or l k 0 ≡ (lagrange_at (h + h) y k).word
      at k k<n = elim (dec_lt k h) [
        | yes k<h ↦ d.low k (omega arith) k<h
        | no ge ↦
            let e : h + (k - h) ≡ k = omega arith in
            ap (λ (k : ℕ). get_or l k 0) (sym e) ∙ d.high (k - h) (omega arith) (omega arith)
            ∙ ap (λ (k : ℕ). (lagrange_at (h + h) y k).word) e
      ]
