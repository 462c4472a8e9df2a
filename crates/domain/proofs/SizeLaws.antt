-- The sizes are the eleven powers of two up to 1,024. The smaller of two divides the larger, each divides p - 1, and none is
-- 0 in the field; the inverse of each. Assumes nothing.
use mathlib.Core.Path.{◌≡◌, refl, sym, ap, ◌∙◌}
use mathlib.Core.Logic.{◌≢◌}
use mathlib.Core.Bool.{true}
use mathlib.Core.List.{[], ◌∷◌}
use Prim.Native.Nat.{ℕ, zero, suc, ◌+◌, ◌-◌, ◌*◌, ◌/◌, ◌^◌, ◌≤◌, ◌<◌, max}
use lib.Dec.{eqb, leb}
use lib.Pow.{pow-add, pow-lt, pow_mono, pow_pos}
use borrow.Author.Tests.{eqb-true, eq-eqb, leb-true, le-leb, lt-leb}
use native.Mathlib.Omega.{arith}
use native.Mathlib.Decide.{dec_le, dec_lt}
use native.Mathlib.Nat.{one-le-pow, pow-suc, pow-le-pow_right, mul-zero, mul-add, mul_assoc}
use native.Mathlib.Nat.{div-eq_of_eq-mul_right, div-le_self, max-eq_left, max-eq_right}
use Rattle.algebra.proofs.Counting.{all-tabulate}
use Rattle.algebra.proofs.FieldLaws.{mul-not-zero}
use Rattle.algebra.proofs.Solver.{◌:+◌, ◌:-◌, ◌:*◌, :-◌, :0, :1, ◌:=◌, ◌⊙◌, ◌from◌, ring_by}
use Rattle.field.specs.Prime.{Prime}
use Rattle.field.specs.Element.{Elem, of, 𝟘, ◌⊕◌, ◌⊗◌}
use Rattle.field.specs.Power.{reciprocal}
use Rattle.field.proofs.ElementLaws.{of-add, of-mul, of-p, of-not-zero, one_not_zero, prime_ring}
use Rattle.field.proofs.Words.{word-of}
use Rattle.field.proofs.Field.{prime_field, reciprocal-unique}
use Rattle.domain.specs.Size.{max_size, sizes, is_size, size_for}
use Rattle.domain.specs.Qualifies.{Qualifies}
use Rattle.domain.proofs.ListLaws.{any-tabulate, tabulate-any, first_or_all, first_or_passes, first_or_tabulate, first_or_none}

pub size_is-power : (n : ℕ) → is_size n ≡ true → (k : ℕ) × (k < 11) × (n ≡ 2 ^ k)
unfolding is_size sizes
size_is-power n s = let (k, l, e) = any-tabulate 11 (λ k. 2 ^ k) (eqb n) s in (k, l, eqb-true n (2 ^ k) e)

pub power-is_size : (k : ℕ) → k < 11 → is_size (2 ^ k) ≡ true
unfolding is_size sizes
power-is_size k l = tabulate-any 11 k (λ k. 2 ^ k) (eqb (2 ^ k)) l (eq-eqb (2 ^ k) (2 ^ k) refl)

pub size_positive : (n : ℕ) → is_size n ≡ true → 0 < n
size_positive n s = let (k, l, e) = size_is-power n s in rw e (one-le-pow k 2 (omega arith))

pub size_bound : (n : ℕ) → is_size n ≡ true → n ≤ max_size
size_bound n s = let (k, l, e) = size_is-power n s in rw e (pow-le-pow_right {n = 2} (omega arith) {i = k} {j = 10} (omega arith))

max-is_size : (m n : ℕ) → is_size m ≡ true → is_size n ≡ true → is_size (max m n) ≡ true
max-is_size m n s t = elim (dec_le m n) [ yes le ↦ ap is_size (max-eq_right le) ∙ t | no gt ↦ ap is_size (max-eq_left (omega arith)) ∙ s ]

pub largest-is_size : (l m n : ℕ) → is_size l ≡ true → is_size m ≡ true → is_size n ≡ true → is_size (max l (max m n)) ≡ true
largest-is_size l m n s t u = max-is_size l (max m n) s (max-is_size m n t u)

-- a number that is some multiple of m is the multiple by its quotient
multiple : (m n c : ℕ) → 0 < m → n ≡ m * c → n ≡ m * (n / m)
multiple m n c pos e = e ∙ ap (λ x. m * x) (sym (div-eq_of_eq-mul_right pos e))

pub size_divides : (m n : ℕ) → is_size m ≡ true → is_size n ≡ true → m ≤ n → n ≡ m * (n / m)
size_divides m n s t le =
    let (j, _, em) = size_is-power m s in
    let (k, _, en) = size_is-power n t in
    elim (dec_le j k) [
      | yes j≤k ↦
          let split : k ≡ j + (k - j) = omega arith in
          multiple m n (2 ^ (k - j)) (size_positive m s) (en ∙ ap (λ x. 2 ^ x) split ∙ pow-add 2 j (k - j) ∙ ap (λ x. x * 2 ^ (k - j)) (sym em))
      | no j>k ↦ absurd (omega (arith, em, en, pow-lt {i = k} {j = j} (omega arith)))
    ]

-- a size other than 1 is twice a size
pub size_halves : (n : ℕ) → is_size n ≡ true → 1 < n → (n ≡ n / 2 + n / 2) × (is_size (n / 2) ≡ true)
size_halves n s more = let (k, l, e) = size_is-power n s in go k l e
  where
    go : (k : ℕ) → k < 11 → n ≡ 2 ^ k → (n ≡ n / 2 + n / 2) × (is_size (n / 2) ≡ true)
    go zero l e = absurd (omega arith)
    go (suc k) l e =
        let half : n / 2 ≡ 2 ^ k = omega (arith, pow-suc 2 k) in
        (omega (arith, pow-suc 2 k), ap is_size half ∙ power-is_size k (omega arith))

pub size_quotient_positive : (m n : ℕ) → is_size m ≡ true → is_size n ≡ true → m ≤ n → 0 < n / m
size_quotient_positive m n s t le = go (n / m) (size_divides m n s t le)
  where
    go : (c : ℕ) → n ≡ m * c → 0 < c
    go zero e = absurd (omega (arith, size_positive n t, e ∙ mul-zero m))
    go (suc c) e = omega arith

pub size_divides_order : {q : Prime} → Qualifies q → (n : ℕ) → is_size n ≡ true → q.p - 1 ≡ n * ((q.p - 1) / n)
size_divides_order {q} Q n s =
    let all : q.p - 1 ≡ max_size * ((q.p - 1) / max_size) = omega (arith, Q.divided) in
    let c : ℕ = (q.p - 1) / max_size in
    multiple n (q.p - 1) (max_size / n * c) (size_positive n s)
    (all ∙ ap (λ x. x * c) (size_divides n max_size s (power-is_size 10 (omega arith)) (size_bound n s)) ∙ mul_assoc n (max_size / n) c)

pub size_for_is_size : (count : ℕ) → is_size (size_for count) ≡ true
unfolding size_for sizes
size_for_is_size count = first_or_all (λ n. is_size n ≡ true) max_size (leb count) sizes (power-is_size 10 (omega arith))
    (all-tabulate (λ n. is_size n ≡ true) 11 (λ k. 2 ^ k) power-is_size)

pub size_for_holds : (count : ℕ) → count ≤ max_size → count ≤ size_for count
unfolding size_for
size_for_holds count le = leb-true count (size_for count) (first_or_passes max_size (leb count) sizes (le-leb count max_size le))

-- the size of a count is the smallest power of two that holds it
pub next-power : (count : ℕ) → count ≤ max_size → (k : ℕ) {size : ℕ} → size ≡ 2 ^ k → count ≤ size → size / 2 < max 1 count
    → size ≡ size_for count
unfolding size_for sizes
next-power count most k {size} power enough least =
    power
    ∙ sym
    (first_or_tabulate max_size (leb count) 11 k (λ k. 2 ^ k) limit (λ j l. lt-leb count (2 ^ j) (lower j l))
    (le-leb count (2 ^ k) (omega (arith, power))))
  where
    limit : k < 11
    limit = elim (dec_lt k 11) [
      | yes l ↦ l
      | no m ↦ absurd (omega (arith, power, pow_mono {i = 11} {j = k} (omega arith)))
    ]

    lower : (j : ℕ) → j < k → 2 ^ j < count
    lower j l =
        let up : k ≡ suc (k - 1) = omega arith in
        omega (arith, power, ap (λ k. 2 ^ k) up, pow-suc 2 (k - 1), pow_mono {i = j} {j = k - 1} (omega arith), pow_pos j)

pub size_for_past : (count : ℕ) → max_size < count → size_for count ≡ max_size
unfolding size_for sizes
size_for_past count h = first_or_none max_size (leb count) 11 (λ k. 2 ^ k)
    (λ j m. lt-leb count (2 ^ j) (omega (arith, size_bound (2 ^ j) (power-is_size j m))))

-- no power of 2 is 0 in the field, since 2 is below p
power-not-zero : {q : Prime} (k : ℕ) → of {q = q} (2 ^ k) ≢ 𝟘
power-not-zero zero z = one_not_zero z
power-not-zero {q} (suc k) z =
    mul-not-zero (prime_ring q) (prime_field q) (of (2 ^ k)) (of 2) (power-not-zero k)
    (of-not-zero 2 (omega arith) q.above_two)
    (sym (of-mul (2 ^ k) 2) ∙ ap of (sym (pow-suc 2 k)) ∙ z)

pub size_not-zero : {q : Prime} (n : ℕ) → is_size n ≡ true → of {q = q} n ≢ 𝟘
size_not-zero n s z = let (k, _, e) = size_is-power n s in power-not-zero k (ap of (sym e) ∙ z)

-- -(p - 1)/n is 1/n: n times (p - 1)/n is p - 1, which stands for -1
pub size_inverse : {q : Prime} → Qualifies q → (n : ℕ) → is_size n ≡ true → q.p - (q.p - 1) / n ≡ (reciprocal (of {q = q} n)).word
size_inverse {q} Q n s =
    sym (word-of q (p - c) (omega (arith, some c times)))
    ∙ ap (λ (x : Elem q). x.word) (reciprocal-unique (of n) (of (p - c)) product)
  where
    p : ℕ
    p = q.p

    c : ℕ
    c = (p - 1) / n

    times : p - 1 ≡ n * c
    times = size_divides_order Q n s

    some : (c : ℕ) → p - 1 ≡ n * c → 0 < c
    some zero e = absurd (omega (arith, e ∙ mul-zero n, q.above_two))
    some (suc c) e = omega arith

    whole : n * (p - c) + (p - 1) ≡ n * p
    whole =
        let back : p - c + c ≡ p = omega (arith, div-le_self (p - 1) n) in
        ap (λ k. n * (p - c) + k) times ∙ sym (mul-add n (p - c) c) ∙ ap (λ k. n * k) back

    less : p - 1 + 1 ≡ p
    less = omega (arith, q.above_two)

    product : of n ⊗ of (p - c) ≡ of {q = q} 1
    product =
        ring_by (prime_ring q) (of n ∷ of (p - c) ∷ of (p - 1) ∷ of p ∷ [])
        (λ n d m p. n :* d := :1 from (:1 ⊙ (n :* d :+ m := n :* p)) ∷ ((n :- :1) ⊙ (p := :0)) ∷ ((:- :1) ⊙ (m :+ :1 := p)) ∷ []) (
          ap (λ (x : Elem q). x ⊕ of (p - 1)) (sym (of-mul n (p - c))) ∙ sym (of-add (n * (p - c)) (p - 1)) ∙ ap of whole ∙ of-mul n p,
          (of-p, (sym (of-add (p - 1) 1) ∙ ap of less, tt)),
        ) tt

-- the size for m
module _ {n : ℕ} (m : ℕ) (e : n ≡ size_for m) where
  pub size_is : is_size n ≡ true
  size_is = ap is_size e ∙ size_for_is_size m

  pub size_fits : n ≤ max_size
  size_fits = size_bound n size_is

  pub size_holds : m ≤ max_size → m ≤ n
  size_holds le = omega (arith, size_for_holds m le)

  -- and one less
  pub sized_positive : 1 ≤ n
  sized_positive = size_positive n size_is

  pub sized-fits : n - 1 ≤ max_size
  sized-fits = omega (arith, size_fits)

  pub sized-next : n - 1 + 1 ≡ size_for m
  sized-next = omega (arith, sized_positive)
