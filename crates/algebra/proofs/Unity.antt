-- The n powers of an element w of order n, in a ring with no zero divisors. They are distinct, and are all the roots of
-- Y^n - 1. The sum of a polynomial's values at them is n times the constant coefficient of its remainder by Y^n - 1; a
-- polynomial that is 0 at them is a multiple of Y^n - 1; and values at them are interpolated. Assumes nothing.
use mathlib.Core.Path.{◌≡◌, refl, sym, ◌∙◌, ap, ap₂, subst}
use mathlib.Core.Logic.{◌≢◌, ◌⊎◌, inl, inr}
use mathlib.Core.List.{List, [], ◌∷◌, ◌++◌}
use Prim.Native.Nat.{ℕ, zero, suc, ◌+◌, ◌-◌, ◌*◌, ◌≤◌, ◌<◌}
use native.Mathlib.Omega.{arith}
use native.Mathlib.Decide.{dec_lt, ℕ_discrete}
use native.Mathlib.Nat.{add-mul as ℕ-add-mul, mul_comm as ℕ-mul-comm}
use lib.ListN.{length, get_or, replicate, length-append, length-replicate}
use Rattle.algebra.specs.Ring.{CommRing, cast, pow, Order}
use Rattle.algebra.specs.Lists.{tabulate}
use Rattle.algebra.specs.Counting.{All, Distinct}
use Rattle.algebra.specs.Sum.{sum}
use Rattle.algebra.specs.Polynomial.{eval, add, scale, quotient, remainder}
use Rattle.algebra.proofs.RingLaws.{zero-add, mul_left_comm, mul-zero, sub_zero→eq, eq→sub_zero, pow-add, pow-mul, one_pow}
use Rattle.algebra.proofs.Solver.{◌:+◌, ◌:-◌, ◌:*◌, :-◌, :0, :1, ◌:=◌, ◌⊙◌, ◌from◌, ring_by}
use Rattle.algebra.proofs.Counting.{all_map, all_map₂, all-tabulate, distinct-tabulate}
use Rattle.algebra.proofs.SumLaws.{sum_ext, sum-zero, sum-scale, sum_const, sum_swap, sum_one, geometric}
use Rattle.algebra.proofs.PolynomialLaws.{eval_add, eval-scale, eval-zero, eval_append, eval-replicate-zero, eval-sum}
use Rattle.algebra.proofs.PolynomialLaws.{length-add, length-scale, length-tabulate}
use Rattle.algebra.proofs.RootBound.{roots_zero, agree_everywhere, agree_equal}
use Rattle.algebra.proofs.Division.{division, length-remainder}

-- a property that is decided holds of some number below n or of none
some_or_none : {P : ℕ → Type 0} → ((i : ℕ) → Dec (P i)) → (n : ℕ) → ((i : ℕ) × (i < n) × P i) ⊎ ((i : ℕ) → i < n → ¬ P i)
some_or_none d zero = inr (λ i l. absurd (omega arith))
some_or_none {P} d (suc n) = go (d n) (some_or_none d n)
  where
    go : Dec (P n) → ((i : ℕ) × (i < n) × P i) ⊎ ((i : ℕ) → i < n → ¬ P i)
        → ((i : ℕ) × (i < suc n) × P i) ⊎ ((i : ℕ) → i < suc n → ¬ P i)
    go (yes p) r = inl (n, omega arith, p)
    go (no np) (inl (i, l, p)) = inl (i, omega arith, p)
    go (no np) (inr none) = inr (λ i l p. elim (ℕ_discrete i n) [ yes e ↦ np (subst P e p) | no ne ↦ none i (omega arith) p ])

module _ {A : Type 0} (R : CommRing A) where
  open R use {𝟘, 𝟙, ◌⊕◌, ◌⊗◌, neg, mul_comm, mul_one}

  infixl 75 ◌⊕◌
  infixl 80 ◌⊗◌
  -- Y^n · f
  shift : ℕ → List A → List A
  shift n f = replicate n 𝟘 ++ f

  eval_shift : (n : ℕ) (f : List A) (x : A) → eval R (shift n f) x ≡ pow R x n ⊗ eval R f x
  unfolding shift
  eval_shift n f x = eval_append R (replicate n 𝟘) f x
      ∙ ap₂ (λ z m. z ⊕ pow R x m ⊗ eval R f x) (eval-replicate-zero R n x) (length-replicate n 𝟘) ∙ zero-add R _

  length_shift : (n : ℕ) (f : List A) → length (shift n f) ≡ n + length f
  unfolding shift
  length_shift n f = omega (arith, length-append (replicate n 𝟘) f, length-replicate n 𝟘)

  head_shift : (n : ℕ) (f : List A) → 0 < n → get_or (shift n f) 0 𝟘 ≡ 𝟘
  unfolding shift
  head_shift zero f pos = absurd (omega arith)
  head_shift (suc n) f pos = refl

  -- q · (Y^n - 1) + r
  compose : ℕ → List A → List A → List A
  compose n q r = add R (shift n q) (add R (scale R (neg 𝟙) q) r)

  eval_compose : (n : ℕ) (q r : List A) (x : A) → eval R (compose n q r) x ≡ eval R q x ⊗ (pow R x n ⊕ neg 𝟙) ⊕ eval R r x
  unfolding compose
  eval_compose n q r x =
      let m : List A = scale R (neg 𝟙) q in
      let t : List A = add R m r in
      ring_by R (eval R q x ∷ eval R r x ∷ pow R x n ∷ eval R (shift n q) x ∷ eval R m x ∷ eval R t x ∷ eval R (compose n q r) x ∷ [])
      (λ q r p s m t c. c := q :* (p :- :1) :+ r from
      (:1 ⊙ (c := s :+ t)) ∷ (:1 ⊙ (s := p :* q)) ∷ (:1 ⊙ (t := m :+ r)) ∷ (:1 ⊙ (m := (:- :1) :* q)) ∷ [])
      (eval_add R (shift n q) t x, (eval_shift n q x, (eval_add R m r x, (eval-scale R (neg 𝟙) q x, tt)))) tt

  length_compose : (n : ℕ) (q r : List A) → length r ≤ n → length (compose n q r) ≡ length q + n
  unfolding compose
  length_compose n q r le =
      let m : List A = scale R (neg 𝟙) q in
      omega (arith, length-add R (shift n q) (add R m r), length-add R m r, length-scale R (neg 𝟙) q, length_shift n q)

  module _ (nzd : (a b : A) → a ⊗ b ≡ 𝟘 → a ≢ 𝟘 → b ≡ 𝟘) (n : ℕ) (w : A) (order : Order R n w) where
    power_multiple : (i : ℕ) → pow R w (n * i) ≡ 𝟙
    power_multiple i = pow-mul R w n i ∙ ap (λ y. pow R y i) order.full ∙ one_pow R i

    -- each power is a root of Y^n - 1
    pub power-root : (i : ℕ) → pow R (pow R w i) n ≡ 𝟙
    power-root i = sym (pow-mul R w i n) ∙ ap (pow R w) (ℕ-mul-comm i n) ∙ power_multiple i

    powers_apart : (i j : ℕ) → i < j → j < n → pow R w i ≢ pow R w j
    powers_apart i j i<j j<n e =
        let before : n - (j - i) ≡ n - j + i = omega arith in
        let after : n - j + j ≡ n = omega arith in
        order.first (n - (j - i)) (omega arith) (omega arith)
        (ap (pow R w) before ∙ pow-add R w (n - j) i ∙ ap (λ y. pow R w (n - j) ⊗ y) e
        ∙ sym (pow-add R w (n - j) j) ∙ ap (pow R w) after ∙ order.full)

    -- the powers with exponents below n are distinct
    pub powers-distinct : (i j : ℕ) → i < n → j < n → pow R w i ≡ pow R w j → i ≡ j
    powers-distinct i j i<n j<n e = elim (dec_lt i j) [
      | yes lt ↦ absurd (powers_apart i j lt j<n e)
      | no ge ↦ elim (dec_lt j i) [ yes lt ↦ absurd (powers_apart j i lt i<n (sym e)) | no le ↦ omega arith ]
    ]

    pub powers-list-distinct : Distinct (tabulate n (pow R w))
    powers-list-distinct = distinct-tabulate n (pow R w) powers-distinct

    -- the n powers of w^k add up to 0, unless w^k is 1
    pub orthogonal : (k : ℕ) → pow R w k ≢ 𝟙 → sum R n (λ i. pow R w (k * i)) ≡ 𝟘
    orthogonal k ne = sum_ext R n _ _ (λ i l. pow-mul R w k i)
        ∙ nzd _ _ (geometric R n (pow R w k) ∙ eq→sub_zero R _ _ (power-root k)) (λ e. ne (sub_zero→eq R _ _ e))

    sum_ones : (k : ℕ) → pow R w k ≡ 𝟙 → sum R n (λ i. pow R w (k * i)) ≡ cast R n
    sum_ones k e = sum_ext R n _ (λ i. 𝟙) (λ i l. pow-mul R w k i ∙ ap (λ y. pow R y i) e ∙ one_pow R i) ∙ sum_const R n 𝟙 ∙ mul_one _

    -- the sum of the values of a polynomial of degree less than n is n times its constant coefficient
    pub sum-powers : (f : List A) → length f ≤ n → sum R n (λ i. eval R f (pow R w i)) ≡ cast R n ⊗ get_or f 0 𝟘
    sum-powers [] le = sum-zero R n ∙ sym (mul-zero R _)
    sum-powers (c ∷ f) le =
        sum_ext R n _ _ (λ i l. eval-sum R (c ∷ f) (pow R w i) ∙ sum_ext R (suc (length f)) _ _ (λ j k. exponents i j))
        ∙ sum_swap R n (suc (length f)) (λ i j. coefficient j ⊗ pow R w (j * i))
        ∙ sum_ext R (suc (length f)) _ _ (λ j k. sum-scale R n (coefficient j) (λ i. pow R w (j * i)))
        ∙ sum_one R (suc (length f)) 0 (λ j. coefficient j ⊗ sum R n (λ i. pow R w (j * i))) (omega arith) others
        ∙ ap (λ y. c ⊗ y) (sum_ones 0 refl) ∙ mul_comm _ _
      where
        coefficient : ℕ → A
        coefficient j = get_or (c ∷ f) j 𝟘

        exponents : (i j : ℕ) → coefficient j ⊗ pow R (pow R w i) j ≡ coefficient j ⊗ pow R w (j * i)
        exponents i j = ap (λ y. coefficient j ⊗ y) (sym (pow-mul R w i j) ∙ ap (pow R w) (ℕ-mul-comm i j))

        others : (j : ℕ) → j < suc (length f) → j ≢ 0 → coefficient j ⊗ sum R n (λ i. pow R w (j * i)) ≡ 𝟘
        others j k ne = ap (λ y. coefficient j ⊗ y) (orthogonal j (order.first j (omega arith) (omega arith))) ∙ mul-zero R _

    -- where q · (Y^n - 1) + r and q' · (Y^n - 1) + r' agree at enough points, none of them a root of Y^n - 1, q is q' and r is r'
    pub division_unique : (q q' r r' l : List A) → length q ≡ length q' → length r ≡ length r' → length r ≤ n
        → Distinct l → length q + n ≤ length l → All (λ x. pow R x n ≢ 𝟙) l
        → All (λ x. eval R q x ⊗ (pow R x n ⊕ neg 𝟙) ⊕ eval R r x ≡ eval R q' x ⊗ (pow R x n ⊕ neg 𝟙) ⊕ eval R r' x) l
        → (q ≡ q') × (r ≡ r')
    division_unique q q' r r' l same-q same-r short d enough off agree = (quotients, remainders)
      where
        Same : A → Type 0
        Same x = eval R q x ⊗ (pow R x n ⊕ neg 𝟙) ⊕ eval R r x ≡ eval R q' x ⊗ (pow R x n ⊕ neg 𝟙) ⊕ eval R r' x

        everywhere : (x : A) → Same x
        everywhere x = sym (eval_compose n q r x)
            ∙ agree_everywhere R nzd l (compose n q r) (compose n q' r')
            (omega (arith, length_compose n q r short)) (omega (arith, length_compose n q' r' (omega arith))) d
            (all_map (λ y e. eval_compose n q r y ∙ e ∙ sym (eval_compose n q' r' y)) l agree) x
            ∙ eval_compose n q' r' x

        at-powers : (i : ℕ) → i < n → eval R r (pow R w i) ≡ eval R r' (pow R w i)
        at-powers i l =
            let x : A = pow R w i in
            ring_by R (eval R q x ∷ eval R q' x ∷ eval R r x ∷ eval R r' x ∷ pow R x n ∷ [])
            (λ q q' r r' p. r := r' from (:1 ⊙ (q :* (p :- :1) :+ r := q' :* (p :- :1) :+ r')) ∷ ((q' :- q) ⊙ (p := :1)) ∷ [])
            (everywhere x, (power-root i, tt)) tt

        remainders : r ≡ r'
        remainders = agree_equal R nzd (tabulate n (pow R w)) r r' (omega (arith, length-tabulate n (pow R w))) same-r
            powers-list-distinct (all-tabulate _ n (pow R w) at-powers)

        at_others : (x : A) → pow R x n ≢ 𝟙 → Same x → eval R q x ≡ eval R q' x
        at_others x ne e = sub_zero→eq R _ _ (nzd (pow R x n ⊕ neg 𝟙) (eval R q x ⊕ neg (eval R q' x))
            (ring_by R (eval R q x ∷ eval R q' x ∷ eval R r x ∷ eval R r' x ∷ pow R x n ∷ [])
            (λ q q' r r' p. (p :- :1) :* (q :- q') := :0 from
            (:1 ⊙ (q :* (p :- :1) :+ r := q' :* (p :- :1) :+ r')) ∷ ((:- :1) ⊙ (r := r')) ∷ [])
            (e, (ap (λ f. eval R f x) remainders, tt)) tt)
            (λ z. ne (sub_zero→eq R _ _ z)))

        quotients : q ≡ q'
        quotients = agree_equal R nzd l q q' (omega arith) same-q d (all_map₂ at_others l off agree)

    -- the polynomial with the coefficients Σ_j v_j w^((n-i)j) has n times the value v_k at w^k
    pub interpolation : (v : ℕ → A) (k : ℕ) → k < n
        → sum R n (λ i. sum R n (λ j. v j ⊗ pow R w ((n - i) * j)) ⊗ pow R (pow R w k) i) ≡ cast R n ⊗ v k
    interpolation v k k<n =
        sum_ext R n _ _ (λ i i<n. mul_comm _ _ ∙ sym (sum-scale R n (pow R (pow R w k) i) (λ j. v j ⊗ pow R w ((n - i) * j)))
        ∙ sum_ext R n _ _ (λ j j<n. exponents i j i<n j<n))
        ∙ sum_swap R n n (λ i j. v j ⊗ pow R w ((n - j + k) * i))
        ∙ sum_ext R n _ _ (λ j j<n. sum-scale R n (v j) (λ i. pow R w ((n - j + k) * i)))
        ∙ sum_one R n k (λ j. v j ⊗ sum R n (λ i. pow R w ((n - j + k) * i))) k<n
        (λ j j<n ne. ap (λ y. v j ⊗ y) (orthogonal (n - j + k) (λ e. ne (same j j<n e))) ∙ mul-zero R _)
        ∙ ap (λ y. v k ⊗ y) (sum_ones (n - k + k) (let e : n - k + k ≡ n = omega arith in ap (pow R w) e ∙ order.full)) ∙ mul_comm _ _
      where
        same : (j : ℕ) → j < n → pow R w (n - j + k) ≡ 𝟙 → j ≡ k
        same j j<n e =
            let s : n - j + k + j ≡ n + k = omega arith in
            powers-distinct j k j<n k<n
            (ring_by R (pow R w (n - j + k) ∷ pow R w j ∷ pow R w n ∷ pow R w k ∷ [])
            (λ a b c d. b := d from (:1 ⊙ (a :* b := c :* d)) ∷ ((:- b) ⊙ (a := :1)) ∷ (d ⊙ (c := :1)) ∷ [])
            (sym (pow-add R w (n - j + k) j) ∙ ap (pow R w) s ∙ pow-add R w n k, (e, (order.full, tt))) tt)

        inverses : (i j : ℕ) → i < n → pow R w ((n - i) * j) ⊗ pow R w (i * j) ≡ 𝟙
        inverses i j i<n =
            let s : n - i + i ≡ n = omega arith in
            sym (pow-add R w ((n - i) * j) (i * j)) ∙ ap (pow R w) (sym (ℕ-add-mul (n - i) i j) ∙ ap (λ m. m * j) s) ∙ power_multiple j

        -- w^((n-i)j) and w^((n-j)i) are the inverse of w^(ij)
        exchange : (i j : ℕ) → i < n → j < n → pow R w ((n - i) * j) ≡ pow R w ((n - j) * i)
        exchange i j i<n j<n =
            ring_by R (pow R w ((n - i) * j) ∷ pow R w ((n - j) * i) ∷ pow R w (i * j) ∷ pow R w (j * i) ∷ [])
            (λ a b c d. a := b from (b ⊙ (a :* c := :1)) ∷ ((:- a) ⊙ (b :* d := :1)) ∷ ((:- (a :* b)) ⊙ (c := d)) ∷ [])
            (inverses i j i<n, (inverses j i j<n, (ap (pow R w) (ℕ-mul-comm i j), tt))) tt

        exponents : (i j : ℕ) → i < n → j < n → pow R (pow R w k) i ⊗ (v j ⊗ pow R w ((n - i) * j)) ≡ v j ⊗ pow R w ((n - j + k) * i)
        exponents i j i<n j<n = mul_left_comm R _ (v j) _ ∙ ap (λ y. v j ⊗ y)
            (mul_comm _ _ ∙ ap₂ ◌⊗◌ (exchange i j i<n j<n) (sym (pow-mul R w k i)) ∙ sym (pow-add R w ((n - j) * i) (k * i))
            ∙ ap (pow R w) (sym (ℕ-add-mul (n - j) k i)))

    module _ (pos : 0 < n) where
      -- a polynomial and its remainder by Y^n - 1 agree at the powers
      pub remainder-at : (f : List A) (i : ℕ) → eval R f (pow R w i) ≡ eval R (remainder R n f) (pow R w i)
      remainder-at f i =
          let x : A = pow R w i in
          ring_by R (eval R f x ∷ pow R x n ∷ eval R (quotient R n f) x ∷ eval R (remainder R n f) x ∷ [])
          (λ f p q r. f := r from (:1 ⊙ (f := q :* (p :- :1) :+ r)) ∷ (q ⊙ (p := :1)) ∷ [])
          (division R n f x pos, (power-root i, tt)) tt

      -- the univariate sumcheck lemma: the sum of a polynomial's values is n times the constant coefficient of its remainder
      pub sum-remainder : (f : List A) → sum R n (λ i. eval R f (pow R w i)) ≡ cast R n ⊗ get_or (remainder R n f) 0 𝟘
      sum-remainder f = sum_ext R n _ _ (λ i l. remainder-at f i) ∙ sum-powers (remainder R n f) (omega (arith, length-remainder R n f))

      -- a polynomial that is 0 at the powers is a multiple of Y^n - 1
      pub vanishing_divides : (f : List A) → ((i : ℕ) → i < n → eval R f (pow R w i) ≡ 𝟘)
          → (x : A) → eval R f x ≡ eval R (quotient R n f) x ⊗ (pow R x n ⊕ neg 𝟙)
      vanishing_divides f h x =
          ring_by R (eval R f x ∷ pow R x n ∷ eval R (quotient R n f) x ∷ eval R (remainder R n f) x ∷ [])
          (λ f p q r. f := q :* (p :- :1) from (:1 ⊙ (f := q :* (p :- :1) :+ r)) ∷ (:1 ⊙ (r := :0)) ∷ [])
          (division R n f x pos, (eval-zero R (remainder R n f) x zeros, tt)) tt
        where
          zeros : All (λ c. c ≡ 𝟘) (remainder R n f)
          zeros = roots_zero R nzd (tabulate n (pow R w)) (remainder R n f)
              (omega (arith, length-remainder R n f, length-tabulate n (pow R w)))
              powers-list-distinct (all-tabulate _ n (pow R w) (λ i l. sym (remainder-at f i) ∙ h i l))

      -- each root of Y^n - 1 is a power
      pub root-is-power : ((a b : A) → Dec (a ≡ b)) → 𝟙 ≢ 𝟘 → (y : A) → pow R y n ≡ 𝟙 → (i : ℕ) × (i < n) × (y ≡ pow R w i)
      root-is-power discrete 1≢0 y root = elim (some_or_none (λ i. discrete y (pow R w i)) n) [
        | inl found ↦ found
        | inr none ↦ absurd (1≢0 (sym (ap (λ f. get_or f 0 𝟘) (same none)) ∙ head_shift n (𝟙 ∷ []) pos))
      ]
        where
          -- Y^n and 1 agree at the roots of Y^n - 1
          agree : (x : A) → pow R x n ≡ 𝟙 → eval R (shift n (𝟙 ∷ [])) x ≡ eval R (𝟙 ∷ replicate n 𝟘) x
          agree x e = ring_by R (x ∷ pow R x n ∷ eval R (shift n (𝟙 ∷ [])) x ∷ eval R (replicate n 𝟘) x ∷ [])
              (λ x p s z. s := :1 :+ x :* z from (:1 ⊙ (s := p :* (:1 :+ x :* :0))) ∷ (:1 ⊙ (p := :1)) ∷ ((:- x) ⊙ (z := :0)) ∷ [])
              (eval_shift n (𝟙 ∷ []) x, (e, (eval-replicate-zero R n x, tt))) tt

          -- so they would be equal, were y besides the powers
          same : ((i : ℕ) → i < n → y ≢ pow R w i) → shift n (𝟙 ∷ []) ≡ 𝟙 ∷ replicate n 𝟘
          same none = agree_equal R nzd (y ∷ tabulate n (pow R w)) (shift n (𝟙 ∷ [])) (𝟙 ∷ replicate n 𝟘)
              (omega (arith, length_shift n (𝟙 ∷ []), length-tabulate n (pow R w)))
              (omega (arith, length_shift n (𝟙 ∷ []), length-replicate n 𝟘))
              (all-tabulate (λ z. z ≢ y) n (pow R w) (λ i l e. none i l (sym e)), powers-list-distinct)
              (agree y root, all-tabulate _ n (pow R w) (λ i l. agree (pow R w i) (power-root i)))
