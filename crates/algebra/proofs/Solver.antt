-- A solver for equations in commutative rings. `ring` proves an equation that holds in every commutative ring:
--   ring R (a ∷ b ∷ []) (λ a b. (a :+ b) :* (a :- b) := a :* a :- b :* b) tt
-- `ring-by` proves one that follows from others, each given with the coefficient that it is multiplied by:
--   ring-by R (a ∷ b ∷ c ∷ []) (λ a b c. a :* b := a :* c from (a ⊙ (b := c)) ∷ []) (h, tt) tt
-- The list holds the ring's elements for which the variables stand. Where `tt` does not fit, the refusal shows the terms
-- that are left over. It works by bringing both sides to a sum of monomials. Assumes nothing.
use mathlib.Core.Path.{◌≡◌, refl, sym, ◌∙◌, ap, ap₂}
use mathlib.Core.List.{List, [], ◌∷◌}
use Prim.Native.Nat.{ℕ, zero, suc, ◌+◌, ◌*◌, ◌-◌, compare, Ordering}
use native.Mathlib.Omega.{arith}
use lib.Dec.{eqb→eq}
use Rattle.algebra.specs.Ring.{CommRing, cast, pow}
use Rattle.algebra.proofs.RingLaws.{zero-add, one_mul, add-mul, add_left_comm, add_add_add_comm, mul_mul_mul_comm, add_cancel}
use Rattle.algebra.proofs.RingLaws.{mul-zero, zero-mul, neg-zero, neg-neg, neg_sum, mul-neg, neg-mul, sub_zero→eq, eq→sub_zero}
use Rattle.algebra.proofs.RingLaws.{cast-add, cast-mul, pow-add}

infixl 6 ◌:+◌
infixl 6 ◌:-◌
infixl 7 ◌:*◌
infix 8 :-◌
infixr 9 ◌:^◌
-- expressions: a variable by its number, a natural number, 0, 1, and the operations
pub data Expression : Type 0 where
  var : ℕ → Expression
  con : ℕ → Expression
  :0 :1 : Expression
  ◌:+◌ ◌:-◌ ◌:*◌ : Expression → Expression → Expression
  :-◌ : Expression → Expression
  ◌:^◌ : Expression → ℕ → Expression

-- Monomials: the exponents of the variables, that of variable 0 first.
abbrev mul_monomial : List ℕ → List ℕ → List ℕ
mul_monomial [] ys = ys
mul_monomial (x ∷ xs) [] = x ∷ xs
mul_monomial (x ∷ xs) (y ∷ ys) = (x + y) ∷ mul_monomial xs ys

abbrev var_monomial : ℕ → List ℕ
var_monomial zero = 1 ∷ []
var_monomial (suc i) = 0 ∷ var_monomial i

-- the first exponent that differs decides
abbrev compare_monomial : List ℕ → List ℕ → Ordering
compare_monomial [] [] = Ordering.eq
compare_monomial [] (y ∷ ys) = Ordering.lt
compare_monomial (x ∷ xs) [] = Ordering.gt
compare_monomial (x ∷ xs) (y ∷ ys) = elim (compare x y) [
  | Ordering.lt ↦ Ordering.lt
  | Ordering.eq ↦ compare_monomial xs ys
  | Ordering.gt ↦ Ordering.gt
]

-- Normal forms: sums of terms (p - n) m, the greatest monomial m first.
pub data Normal : Type 0 where
  nil : Normal
  term : (p n : ℕ) (m : List ℕ) → Normal → Normal

-- a term in front, unless it is 0
abbrev put : ℕ → ℕ → List ℕ → Normal → Normal
put zero zero m q = q
put zero (suc n) m q = term zero (suc n) m q
put (suc p) n m q = term (suc p) n m q

-- a term, what `rest` adds, and a normal form
abbrev merge : (p n : ℕ) (m : List ℕ) → (Normal → Normal) → Normal → Normal
merge p n m rest nil = term p n m (rest nil)
merge p n m rest (term p' n' m' q) = elim (compare_monomial m m') [
  | Ordering.lt ↦ term p' n' m' (merge p n m rest q)
  | Ordering.eq ↦ put ((p + p') - (n + n')) ((n + n') - (p + p')) m (rest q)
  | Ordering.gt ↦ term p n m (rest (term p' n' m' q))
]

abbrev add_normal : Normal → Normal → Normal
add_normal nil q = q
add_normal (term p n m r) q = merge p n m (add_normal r) q

-- a term times a normal form
abbrev scale_normal : (p n : ℕ) (m : List ℕ) → Normal → Normal
scale_normal p n m nil = nil
scale_normal p n m (term p' n' m' q) =
    put ((p * p' + n * n') - (p * n' + n * p')) ((p * n' + n * p') - (p * p' + n * n')) (mul_monomial m m') (scale_normal p n m q)

abbrev mul_normal : Normal → Normal → Normal
mul_normal nil q = nil
mul_normal (term p n m r) q = add_normal (scale_normal p n m q) (mul_normal r q)

abbrev neg_normal : Normal → Normal
neg_normal nil = nil
neg_normal (term p n m q) = term n p m (neg_normal q)

abbrev pow_normal : Normal → ℕ → Normal
pow_normal p zero = term 1 0 [] nil
pow_normal p (suc k) = mul_normal p (pow_normal p k)

-- the normal form of an expression
abbrev pub normal : Expression → Normal
normal (var i) = term 1 0 (var_monomial i) nil
normal (con k) = put k 0 [] nil
normal :0 = nil
normal :1 = term 1 0 [] nil
normal (a :+ b) = add_normal (normal a) (normal b)
normal (a :- b) = add_normal (normal a) (neg_normal (normal b))
normal (a :* b) = mul_normal (normal a) (normal b)
normal (:- a) = neg_normal (normal a)
normal (a :^ k) = pow_normal (normal a) k

-- No term is left: `tt` proves it of `nil`. Of another normal form it is the empty type Left, which shows the terms.
pub data Left : Normal → Type 0 where

abbrev pub Gone : Normal → Type 0
Gone nil = Unit {0}
Gone (term p n m q) = Left (term p n m q)

-- an equation
pub record Equation : Type 0 where
  pub lhs : Expression
  pub rhs : Expression

infix 4 ◌:=◌
abbrev pub ◌:=◌ : Expression → Expression → Equation
a := b = record { lhs = a; rhs = b }

-- a hypothesis and the coefficient that its two sides are multiplied by
pub record Hypothesis : Type 0 where
  pub coefficient : Expression
  pub equation : Equation

infix 3 ◌⊙◌
abbrev pub ◌⊙◌ : Expression → Equation → Hypothesis
c ⊙ e = record { coefficient = c; equation = e }

-- an equation and the hypotheses that it follows from
pub record Deduction : Type 0 where
  pub conclusion : Equation
  pub hypotheses : List Hypothesis

infix 2 ◌from◌
abbrev pub ◌from◌ : Equation → List Hypothesis → Deduction
e from hs = record { conclusion = e; hypotheses = hs }

-- the differences of the hypotheses' sides, each times its coefficient, added up
abbrev combination : List Hypothesis → Expression
combination [] = :0
combination (h ∷ hs) = h.coefficient :* (h.equation.lhs :- h.equation.rhs) :+ combination hs

-- a function of as many expressions as the list has members, and its value at the variables i, i + 1, ..
abbrev pub Over : {A : Type 0} → List A → Type 0 → Type 0
Over [] B = B
Over (x ∷ ρ) B = Expression → Over ρ B

abbrev pub applied : {A B : Type 0} (ρ : List A) → ℕ → Over ρ B → B
applied [] i e = e
applied (x ∷ ρ) i f = applied ρ (suc i) (f (var i))

module _ {A : Type 0} (R : CommRing A) where
  open R use {𝟘, 𝟙, ◌⊕◌, ◌⊗◌, neg, add_assoc, add_comm, add-zero, add-neg, mul_one, mul-add}

  infixl 75 ◌⊕◌
  infixl 80 ◌⊗◌
  -- the element that a variable stands for
  abbrev element : List A → ℕ → A
  element [] i = 𝟙
  element (x ∷ ρ) zero = x
  element (x ∷ ρ) (suc i) = element ρ i

  -- the element that an expression stands for
  abbrev pub meaning : Expression → List A → A
  meaning (var i) ρ = element ρ i
  meaning (con k) ρ = cast R k
  meaning :0 ρ = 𝟘
  meaning :1 ρ = 𝟙
  meaning (a :+ b) ρ = meaning a ρ ⊕ meaning b ρ
  meaning (a :- b) ρ = meaning a ρ ⊕ neg (meaning b ρ)
  meaning (a :* b) ρ = meaning a ρ ⊗ meaning b ρ
  meaning (:- a) ρ = neg (meaning a ρ)
  meaning (a :^ k) ρ = pow R (meaning a ρ) k

  abbrev pub Holds : Equation → List A → Type 0
  Holds e ρ = meaning e.lhs ρ ≡ meaning e.rhs ρ

  abbrev pub AllHold : List Hypothesis → List A → Type 0
  AllHold [] ρ = Unit {0}
  AllHold (h ∷ hs) ρ = Holds h.equation ρ × AllHold hs ρ

  -- the elements that a monomial, a coefficient p - n and a normal form stand for
  monomial : List ℕ → List A → A
  monomial [] ρ = 𝟙
  monomial (e ∷ es) [] = 𝟙
  monomial (e ∷ es) (x ∷ ρ) = pow R x e ⊗ monomial es ρ

  difference : ℕ → ℕ → A
  difference p n = cast R p ⊕ neg (cast R n)

  value : Normal → List A → A
  value nil ρ = 𝟘
  value (term p n m q) ρ = difference p n ⊗ monomial m ρ ⊕ value q ρ

  monomial_mul : (xs ys : List ℕ) (ρ : List A) → monomial (mul_monomial xs ys) ρ ≡ monomial xs ρ ⊗ monomial ys ρ
  unfolding monomial
  monomial_mul [] ys ρ = sym (one_mul R _)
  monomial_mul (x ∷ xs) [] ρ = sym (mul_one _)
  monomial_mul (x ∷ xs) (y ∷ ys) [] = sym (mul_one 𝟙)
  monomial_mul (x ∷ xs) (y ∷ ys) (a ∷ ρ) = ap₂ ◌⊗◌ (pow-add R a x y) (monomial_mul xs ys ρ) ∙ mul_mul_mul_comm R _ _ _ _

  monomial_var : (i : ℕ) (ρ : List A) → monomial (var_monomial i) ρ ≡ element ρ i
  unfolding monomial
  monomial_var zero [] = refl
  monomial_var zero (x ∷ ρ) = mul_one _ ∙ mul_one x
  monomial_var (suc i) [] = refl
  monomial_var (suc i) (x ∷ ρ) = one_mul R _ ∙ monomial_var i ρ

  compare-equal : (xs ys : List ℕ) → compare_monomial xs ys ≡ Ordering.eq → xs ≡ ys
  compare-equal [] [] e = refl
  compare-equal [] (y ∷ ys) e = cc
  compare-equal (x ∷ xs) [] e = cc
  compare-equal (x ∷ xs) (y ∷ ys) e = go (compare x y) refl (compare-equal xs ys) e
    where
      go : (o : Ordering) → compare x y ≡ o → (compare_monomial xs ys ≡ Ordering.eq → xs ≡ ys)
          → elim o as (λ o. Ordering) [ Ordering.lt ↦ Ordering.lt | Ordering.eq ↦ compare_monomial xs ys | Ordering.gt ↦ Ordering.gt ] ≡ Ordering.eq → x ∷ xs ≡ y ∷ ys
      go Ordering.lt c rec e = cc
      go Ordering.eq c rec e = ap₂ ◌∷◌ (eqb→eq x y (rw c tt)) (rec e)
      go Ordering.gt c rec e = cc

  neg_cancel : (x y z : A) → x ⊕ y ⊕ (z ⊕ neg x) ≡ z ⊕ y
  neg_cancel x y z = ap (λ w. x ⊕ y ⊕ w) (add_comm z (neg x)) ∙ add_add_add_comm R x y (neg x) z ∙ ap (λ w. w ⊕ (y ⊕ z)) (add-neg x)
      ∙ zero-add R _ ∙ add_comm y z

  difference_equal : (p n p' n' : ℕ) → p + n' ≡ p' + n → difference p n ≡ difference p' n'
  unfolding difference
  difference_equal p n p' n' h = add_cancel R (cast R n ⊕ cast R n') _ _
      (neg_cancel _ _ _ ∙ sym (cast-add R p n') ∙ ap (cast R) h ∙ cast-add R p' n ∙ sym (neg_cancel (cast R n') (cast R n) (cast R p'))
      ∙ ap (λ w. w ⊕ (cast R p' ⊕ neg (cast R n'))) (add_comm _ _))

  difference_reduced : (p n : ℕ) → difference (p - n) (n - p) ≡ difference p n
  difference_reduced p n = difference_equal (p - n) (n - p) p n (omega arith)

  difference_add : (p n p' n' : ℕ) → difference (p + p') (n + n') ≡ difference p n ⊕ difference p' n'
  unfolding difference
  difference_add p n p' n' = simp (difference, cast-add, neg_sum, add_assoc, add_left_comm)

  difference_mul : (p n p' n' : ℕ) → difference (p * p' + n * n') (p * n' + n * p') ≡ difference p n ⊗ difference p' n'
  unfolding difference
  difference_mul p n p' n' = simp (difference, cast-add, cast-mul, mul-add, add-mul, mul-neg, neg-mul, neg-neg, neg_sum, add_assoc, add_comm, add_left_comm)

  value-put : (p n : ℕ) (m : List ℕ) (q : Normal) (ρ : List A) → value (put p n m q) ρ ≡ difference p n ⊗ monomial m ρ ⊕ value q ρ
  unfolding value difference
  value-put zero zero m q ρ = simp (add-neg, zero-mul, zero-add)
  value-put zero (suc n) m q ρ = refl
  value-put (suc p) n m q ρ = refl

  value_merge : (p n : ℕ) (m : List ℕ) (rest : Normal → Normal) (v : A) (ρ : List A) → ((q : Normal) → value (rest q) ρ ≡ v ⊕ value q ρ)
      → (q : Normal) → value (merge p n m rest q) ρ ≡ difference p n ⊗ monomial m ρ ⊕ v ⊕ value q ρ
  unfolding value
  value_merge p n m rest v ρ h nil = rw (h nil, add_assoc)
  value_merge p n m rest v ρ h (term p' n' m' q) = go (compare_monomial m m') refl (value_merge p n m rest v ρ h q)
    where
      go : (o : Ordering) → compare_monomial m m' ≡ o → value (merge p n m rest q) ρ ≡ difference p n ⊗ monomial m ρ ⊕ v ⊕ value q ρ
          → value (elim o as (λ o. Normal) [
            | Ordering.lt ↦ term p' n' m' (merge p n m rest q)
            | Ordering.eq ↦ put ((p + p') - (n + n')) ((n + n') - (p + p')) m (rest q)
            | Ordering.gt ↦ term p n m (rest (term p' n' m' q))
          ]) ρ ≡ difference p n ⊗ monomial m ρ ⊕ v ⊕ (difference p' n' ⊗ monomial m' ρ ⊕ value q ρ)
      go Ordering.lt c ih = ap (λ w. difference p' n' ⊗ monomial m' ρ ⊕ w) ih ∙ add_left_comm R _ _ _
      go Ordering.eq c ih = rw (value-put, difference_reduced, difference_add, h q, ← compare-equal m m' c, add-mul) (add_add_add_comm R _ _ _ _)
      go Ordering.gt c ih = ap (λ w. difference p n ⊗ monomial m ρ ⊕ w) (h (term p' n' m' q)) ∙ sym (add_assoc _ _ _)

  value-add : (p q : Normal) (ρ : List A) → value (add_normal p q) ρ ≡ value p ρ ⊕ value q ρ
  unfolding value
  value-add nil q ρ = sym (zero-add R _)
  value-add (term p n m r) q ρ = value_merge p n m (add_normal r) (value r ρ) ρ (λ q. value-add r q ρ) q

  value-scale : (p n : ℕ) (m : List ℕ) (q : Normal) (ρ : List A) → value (scale_normal p n m q) ρ ≡ difference p n ⊗ monomial m ρ ⊗ value q ρ
  unfolding value
  value-scale p n m nil ρ = sym (mul-zero R _)
  value-scale p n m (term p' n' m' q) ρ =
      rw (value-put, difference_reduced, difference_mul, monomial_mul, value-scale p n m q ρ, mul-add)
      (ap (λ x. x ⊕ difference p n ⊗ monomial m ρ ⊗ value q ρ) (mul_mul_mul_comm R _ _ _ _))

  value-mul : (p q : Normal) (ρ : List A) → value (mul_normal p q) ρ ≡ value p ρ ⊗ value q ρ
  unfolding value
  value-mul nil q ρ = sym (zero-mul R _)
  value-mul (term p n m r) q ρ = value-add (scale_normal p n m q) (mul_normal r q) ρ ∙ ap₂ ◌⊕◌ (value-scale p n m q ρ) (value-mul r q ρ)
      ∙ sym (add-mul R _ _ _)

  value-neg : (p : Normal) (ρ : List A) → value (neg_normal p) ρ ≡ neg (value p ρ)
  unfolding value
  value-neg nil ρ = sym (neg-zero R)
  value-neg (term p n m q) ρ = rw (neg_sum, value-neg q ρ, ← neg-mul) (ap (λ c. c ⊗ monomial m ρ ⊕ neg (value q ρ)) swap)
    where
      swap : difference n p ≡ neg (difference p n)
      swap = unfold difference in (simp (neg_sum, neg-neg, add_comm))

  value_one : (ρ : List A) → value (term 1 0 [] nil) ρ ≡ 𝟙
  unfolding value difference monomial
  value_one ρ = simp (difference, neg-zero, add-zero, mul_one)

  value-pow : (p : Normal) (k : ℕ) (ρ : List A) → value (pow_normal p k) ρ ≡ pow R (value p ρ) k
  value-pow p zero ρ = value_one ρ
  value-pow p (suc k) ρ = value-mul p (pow_normal p k) ρ ∙ ap (λ x. value p ρ ⊗ x) (value-pow p k ρ)

  value_normal : (e : Expression) (ρ : List A) → value (normal e) ρ ≡ meaning e ρ
  value_normal (var i) ρ = unfold value difference in simp (difference, neg-zero, add-zero, one_mul, monomial_var i ρ)
  value_normal (con k) ρ = value-put k 0 [] nil ρ ∙ unfold value difference monomial in simp (difference, neg-zero, add-zero, mul_one)
  value_normal :0 ρ = unfold value in refl
  value_normal :1 ρ = value_one ρ
  value_normal (a :+ b) ρ = value-add (normal a) (normal b) ρ ∙ ap₂ ◌⊕◌ (value_normal a ρ) (value_normal b ρ)
  value_normal (a :- b) ρ = value-add (normal a) (neg_normal (normal b)) ρ
      ∙ ap₂ ◌⊕◌ (value_normal a ρ) (value-neg (normal b) ρ ∙ ap neg (value_normal b ρ))
  value_normal (a :* b) ρ = value-mul (normal a) (normal b) ρ ∙ ap₂ ◌⊗◌ (value_normal a ρ) (value_normal b ρ)
  value_normal (:- a) ρ = value-neg (normal a) ρ ∙ ap neg (value_normal a ρ)
  value_normal (a :^ k) ρ = value-pow (normal a) k ρ ∙ ap (λ x. pow R x k) (value_normal a ρ)

  value_gone : (p : Normal) (ρ : List A) → Gone p → value p ρ ≡ 𝟘
  unfolding value
  value_gone nil ρ t = refl
  value_gone (term p n m q) ρ t = elim t [ ]

  equal_meaning : (ρ : List A) (a b : Expression) → Gone (normal (a :- b)) → meaning a ρ ≡ meaning b ρ
  equal_meaning ρ a b t = sub_zero→eq R _ _ (sym (value_normal (a :- b) ρ) ∙ value_gone (normal (a :- b)) ρ t)

  combination_zero : (hs : List Hypothesis) (ρ : List A) → AllHold hs ρ → meaning (combination hs) ρ ≡ 𝟘
  combination_zero [] ρ f = refl
  combination_zero (h ∷ hs) ρ f = ap₂ ◌⊕◌
      (ap (λ x. meaning h.coefficient ρ ⊗ x) (eq→sub_zero R _ _ f.0) ∙ mul-zero R _)
      (combination_zero hs ρ f.1)
      ∙ zero-add R 𝟘

  -- an equation that holds in every commutative ring
  pub ring : (ρ : List A) (e : Over ρ Equation) → Gone (normal ((applied ρ 0 e).lhs :- (applied ρ 0 e).rhs)) → Holds (applied ρ 0 e) ρ
  ring ρ e t = equal_meaning ρ (applied ρ 0 e).lhs (applied ρ 0 e).rhs t

  -- an equation that follows from others: the difference of its sides is the combination of theirs
  pub ring_by : (ρ : List A) (e : Over ρ Deduction) → AllHold (applied ρ 0 e).hypotheses ρ
      → Gone (normal (((applied ρ 0 e).conclusion.lhs :- (applied ρ 0 e).conclusion.rhs) :- combination (applied ρ 0 e).hypotheses))
      → Holds (applied ρ 0 e).conclusion ρ
  ring_by ρ e f t =
      let c : Equation = (applied ρ 0 e).conclusion in
      let hs : List Hypothesis = (applied ρ 0 e).hypotheses in
      sub_zero→eq R _ _ (equal_meaning ρ (c.lhs :- c.rhs) (combination hs) t ∙ combination_zero hs ρ f)
