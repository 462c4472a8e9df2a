-- In a prime's field every element but 0 has an inverse, and its power p - 1 is 1 (Fermat's little theorem). Assumes nothing.
use Rattle.std.proofs.Common.{◌≡◌, ℕ, zero, suc, ◌+◌, ◌-◌, ◌*◌, ◌/◌, ◌%◌, ◌<◌, ◌≤◌, [], ◌∷◌, sym, refl, ap, ◌∙◌, subst, ap₂, le_refl, mod-lt, suc-mul, pos_of_ne-zero, mul-add, one-add, arith}
use native.Mathlib.Decide.{ℕ_discrete}
use native.Mathlib.Nat
use native.Mathlib.Nat.{div-add-mod}
use Rattle.algebra.specs.Ring.{CommRing, IsField, pow}
use Rattle.algebra.specs.Sum.{sum}
use Rattle.algebra.proofs.RingLaws.{zero-mul, mul-neg, neg_unique, one_mul}
use Rattle.algebra.proofs.Solver.{◌:+◌, ◌:*◌, :-◌, :1, ◌:=◌, ring, ring_by, ◌⊙◌, ◌from◌}
use Rattle.algebra.proofs.FieldLaws.{mul_cancel, no_zero_divisors}
use Rattle.algebra.proofs.SumLaws.{sum_ext, sum-none, sum-add, sum-scale, sum_first}
use Rattle.field.specs.Prime.{Prime}
use Rattle.field.specs.Element.{Elem, of, 𝟘, 𝟙, ◌⊕◌, ◌⊗◌, neg}
use Rattle.field.proofs.ElementLaws.{of_word, word_below, of-add, of-mul, of-p, of-not-zero, one_not_zero, decide, add-zero, add_comm, mul_one, mul_assoc, prime_ring}

-- inverses, by descent: p = a·(p / a) + p % a, so p % a is a times the negation of p / a, and it has an inverse where it is not 0
module _ {q : Prime} where
  descent : (f a : ℕ) → a ≤ f → 0 < a → a < q.p → (x : Elem q) × (of a ⊗ x ≡ 𝟙)
  descent zero a l h k = absurd (omega arith)
  descent (suc f) a l h k = elim (ℕ_discrete a 1) [ yes e ↦ (𝟙, mul_one (of a) ∙ ap of e) | no ne ↦ further ne (descent f r) ]
    where
      r : ℕ
      r = q.p % a

      d : ℕ
      d = q.p / a

      rest : of {q = q} r ≡ of a ⊗ neg (of d)
      rest =
          sym
          (neg_unique (prime_ring q) (of a ⊗ of d) (of r)
          (ap (λ (y : Elem q). y ⊕ of r) (sym (of-mul a d)) ∙ sym (of-add (a * d) r) ∙ ap of (div-add-mod q.p a) ∙ of-p))
          ∙ sym (mul-neg (prime_ring q) (of a) (of d))

      further : (a ≡ 1 → ⊥) → (r ≤ f → 0 < r → r < q.p → (x : Elem q) × (of r ⊗ x ≡ 𝟙)) → (x : Elem q) × (of a ⊗ x ≡ 𝟙)
      further ne smaller =
          let less : r < a = mod-lt q.p h in
          let some : 0 < r = pos_of_ne-zero (q.undivided a (omega arith) k) in
          let (x, e) = smaller (omega arith) some (omega arith) in
          (neg (of d) ⊗ x, sym (mul_assoc (of a) (neg (of d)) x) ∙ ap (λ (y : Elem q). y ⊗ x) (sym rest) ∙ e)

  inverse-of : (a : Elem q) → (a ≡ 𝟘 → ⊥) → (x : Elem q) × (a ⊗ x ≡ 𝟙)
  inverse-of a ne =
      subst (λ (b : Elem q). (x : Elem q) × (b ⊗ x ≡ 𝟙)) (of_word a)
      (descent a.word a.word (le_refl a.word) (pos_of_ne-zero (λ e. ne (sym (of_word a) ∙ ap of e))) (word_below a))

  -- the same for every element, 0 with itself
  inverse_by_descent : (a : Elem q) → (x : Elem q) × ((a ≡ 𝟘 → ⊥) → a ⊗ x ≡ 𝟙)
  inverse_by_descent a = elim (decide a 𝟘) [ yes e ↦ (a, λ ne. absurd (ne e)) | no ne ↦ ((inverse-of a ne).0, λ h. (inverse-of a ne).1) ]

  field_by_descent : IsField (prime_ring q)
  field_by_descent =
      record { reciprocal = λ a. (inverse_by_descent a).0; mul-reciprocal = λ a. (inverse_by_descent a).1; one_not_zero = one_not_zero }

-- the binomial coefficients, by Pascal's rule
choose : ℕ → ℕ → ℕ
choose n zero = 1
choose zero (suc k) = 0
choose (suc n) (suc k) = choose n k + choose n (suc k)

pascal : (n k : ℕ) → choose (suc n) (suc k) ≡ choose n k + choose n (suc k)
unfolding choose
pascal n k = refl

choose_none : (n : ℕ) → choose n 0 ≡ 1
unfolding choose
choose_none n = refl

choose_from_none : (k : ℕ) → choose 0 (suc k) ≡ 0
unfolding choose
choose_from_none k = refl

-- (k + 1) times n + 1 over k + 1 is (n + 1) times n over k
absorb : (n k : ℕ) → suc k * choose (suc n) (suc k) ≡ suc n * choose n k
absorb zero zero = omega (arith, pascal 0 0, choose_none 0, choose_from_none 0)
absorb zero (suc k) = rw (pascal, choose_from_none, choose_from_none) (Nat.mul-zero (suc (suc k)))
absorb (suc m) zero = omega (
  arith,
  absorb m zero,
  pascal (suc m) 0,
  choose_none (suc m),
  ap (λ (x : ℕ). suc m * x) (choose_none m),
  ap (λ (x : ℕ). suc (suc m) * x) (choose_none (suc m)),
)
absorb (suc m) (suc j) =
    omega (
      arith,
      absorb m j,
      absorb m (suc j),
      ap (λ (x : ℕ). suc (suc j) * x) (pascal (suc m) (suc j)),
      mul-add (suc (suc j)) (choose (suc m) (suc j)) (choose (suc m) (suc (suc j))),
      suc-mul (suc j) (choose (suc m) (suc j)),
      suc-mul (suc m) (choose (suc m) (suc j)),
      ap (λ (x : ℕ). suc m * x) (pascal m j),
      mul-add (suc m) (choose m j) (choose m (suc j)),
    )

choose_over : (n k : ℕ) → n < k → choose n k ≡ 0
choose_over n zero h = omega arith
choose_over zero (suc k) h = choose_from_none k
choose_over (suc n) (suc k) h = omega (arith, pascal n k, choose_over n k (omega arith), choose_over n (suc k) (omega arith))

choose_all : (n : ℕ) → choose n n ≡ 1
choose_all zero = choose_none 0
choose_all (suc n) = omega (arith, pascal n n, choose_all n, choose_over n (suc n) (omega arith))

module _ {q : Prime} where
  -- the terms of (1 + x)^n
  abbrev term : Elem q → ℕ → ℕ → Elem q
  term x n k = of (choose n k) ⊗ pow (prime_ring q) x k

  term_none : (x : Elem q) (n : ℕ) → term x n 0 ≡ 𝟙
  term_none x n = rw choose_none (mul_one 𝟙)

  term_over : (x : Elem q) (n k : ℕ) → n < k → term x n k ≡ 𝟘
  term_over x n k h = rw (choose_over n k h) (zero-mul (prime_ring q) _)

  term_suc : (x : Elem q) (n k : ℕ) → term x (suc n) (suc k) ≡ x ⊗ term x n k ⊕ term x n (suc k)
  term_suc x n k =
      rw (pascal, of-add)
      (ring (prime_ring q) (of (choose n k) ∷ of (choose n (suc k)) ∷ x ∷ pow (prime_ring q) x k ∷ [])
      (λ a b x p. (a :+ b) :* (x :* p) := x :* (a :* p) :+ b :* (x :* p)) tt)

  -- the binomial theorem for 1 + x
  binomial : (x : Elem q) (n : ℕ) → sum (prime_ring q) (suc n) (term x n) ≡ pow (prime_ring q) (𝟙 ⊕ x) n
  binomial x zero = add_comm 𝟘 (term x 0 0) ∙ add-zero (term x 0 0) ∙ term_none x 0
  binomial x (suc n) =
      let R : CommRing (Elem q) = prime_ring q in
      let all : Elem q = sum R (suc n) (term x n) in
      let later : Elem q = sum R (suc n) (λ k. term x n (suc k)) in
      let first : all ≡ 𝟙 ⊕ later =
      sym (add-zero all) ∙ ap (λ y. all ⊕ y) (sym (term_over x n (suc n) (omega arith)))
      ∙ sum_first R (suc n) (term x n) ∙ ap (λ y. y ⊕ later) (term_none x n) in
      sum_first R (suc n) (term x (suc n))
      ∙ ap₂ ◌⊕◌ (term_none x (suc n))
      (sum_ext R (suc n) _ _ (λ k l. term_suc x n k) ∙ sum-add R (suc n) _ _ ∙ ap (λ y. y ⊕ later) (sum-scale R (suc n) x (term x n)))
      ∙ ring_by R (x ∷ all ∷ later ∷ pow R (𝟙 ⊕ x) n ∷ [])
      (λ x s l p. :1 :+ (x :* s :+ l) := (:1 :+ x) :* p from ((:- :1) ⊙ (s := :1 :+ l)) ∷ ((:1 :+ x) ⊙ (s := p)) ∷ [])
      (first, (binomial x n, tt)) tt

  -- the coefficients between the first and the last are multiples of p
  middle_zero : (m k : ℕ) → suc m ≡ q.p → k < m → of {q = q} (choose (suc m) (suc k)) ≡ 𝟘
  middle_zero m k e h =
      no_zero_divisors (prime_ring q) field_by_descent (of (suc k)) (of (choose (suc m) (suc k)))
      (sym (of-mul (suc k) (choose (suc m) (suc k))) ∙ ap of (absorb m k) ∙ of-mul (suc m) (choose m k)
      ∙ ap (λ (y : Elem q). y ⊗ of (choose m k)) (ap of e ∙ of-p) ∙ zero-mul (prime_ring q) (of (choose m k)))
      (of-not-zero (suc k) (omega arith) (omega arith))

  power-p-add : (m : ℕ) → suc m ≡ q.p → (x : Elem q) → pow (prime_ring q) (𝟙 ⊕ x) (suc m) ≡ 𝟙 ⊕ pow (prime_ring q) x (suc m)
  power-p-add m e x =
      let R : CommRing (Elem q) = prime_ring q in
      sym (binomial x (suc m))
      ∙ ap₂ ◌⊕◌
      (sum_first R m (term x (suc m))
      ∙ ap₂ ◌⊕◌ (term_none x (suc m)) (sum-none R m _ (λ k h. rw (middle_zero m k e h) (zero-mul R _))) ∙ add-zero 𝟙)
      (rw choose_all (one_mul R _))

  power-p : (m : ℕ) → suc m ≡ q.p → (n : ℕ) → pow (prime_ring q) (of {q = q} n) (suc m) ≡ of n
  power-p m e zero = zero-mul (prime_ring q) _
  power-p m e (suc n) =
      let split : of {q = q} (suc n) ≡ 𝟙 ⊕ of n = ap of (sym (one-add n)) ∙ of-add 1 n in
      ap (λ (y : Elem q). pow (prime_ring q) y (suc m)) split ∙ power-p-add m e (of n) ∙ ap (λ (y : Elem q). 𝟙 ⊕ y) (power-p m e n) ∙ sym split

  pub fermat : (a : Elem q) → (a ≡ 𝟘 → ⊥) → pow (prime_ring q) a (q.p - 1) ≡ 𝟙
  fermat a ne =
      mul_cancel (prime_ring q) field_by_descent a (pow (prime_ring q) a (q.p - 1)) 𝟙 ne
      (subst (λ (b : Elem q). pow (prime_ring q) b (suc (q.p - 1)) ≡ b) (of_word a) (power-p (q.p - 1) (omega (arith, q.above_two)) a.word)
      ∙ sym (mul_one a))
