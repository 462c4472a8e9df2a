-- Laws of counting by lists without repetition: the union bound, what is left over by few exceptions, and bounds carried
-- along an injective function. Assumes nothing.
use mathlib.Core.Path.{◌≡◌, refl, sym, ◌∙◌}
use mathlib.Core.Logic.{◌≢◌, ◌⊎◌, inl, inr}
use mathlib.Core.List.{List, [], ◌∷◌, ◌++◌, map}
use Prim.Native.Nat.{ℕ, zero, suc, ◌+◌, ◌≤◌, ◌<◌}
use native.Mathlib.Omega.{arith}
use native.Mathlib.Decide.{ℕ_discrete}
use lib.ListN.{length, get_or, set, length-map}
use Rattle.algebra.specs.Counting.{All, Distinct, AtMost, MoreThan}
use Rattle.algebra.specs.Lists.{tabulate}

module _ {A : Type 0} where
  pub all_of : {P : A → Type 0} → ((x : A) → P x) → (l : List A) → All P l
  all_of f [] = tt
  all_of f (x ∷ l) = (f x, all_of f l)

  pub all_map : {P Q : A → Type 0} → ((x : A) → P x → Q x) → (l : List A) → All P l → All Q l
  all_map f [] p = tt
  all_map f (x ∷ l) p = (f x p.0, all_map f l p.1)

  pub all_map₂ : {P Q S : A → Type 0} → ((x : A) → P x → Q x → S x) → (l : List A) → All P l → All Q l → All S l
  all_map₂ f [] p q = tt
  all_map₂ f (x ∷ l) p q = (f x p.0 q.0, all_map₂ f l p.1 q.1)

  pub all_append : (P : A → Type 0) (l k : List A) → All P l → All P k → All P (l ++ k)
  all_append P [] k h g = g
  all_append P (x ∷ l) k h g = (h.0, all_append P l k h.1 g)

  pub append_all : (P : A → Type 0) (l k : List A) → All P (l ++ k) → All P l × All P k
  append_all P [] k h = (tt, h)
  append_all P (x ∷ l) k h = let (left, right) = append_all P l k h.1 in ((h.0, left), right)

  -- what all members have, the member at a place has
  pub all-at : (P : A → Type 0) (l : List A) → All P l → (i : ℕ) (d : A) → i < length l → P (get_or l i d)
  all-at P [] h i d below = absurd (omega arith)
  all-at P (x ∷ l) h zero d below = h.0
  all-at P (x ∷ l) h (suc i) d below = all-at P l h.1 i d (omega arith)

  pub at_all : (P : A → Type 0) (l : List A) (d : A) → ((i : ℕ) → i < length l → P (get_or l i d)) → All P l
  at_all P [] d h = tt
  at_all P (x ∷ l) d h = (h 0 (omega arith), at_all P l d (λ i below. h (suc i) (omega arith)))

  -- another member that has it, in the place of one
  pub all_set : (P : A → Type 0) (l : List A) (i : ℕ) (x : A) → All P l → P x → All P (set l i x)
  all_set P [] i x h new = tt
  all_set P (y ∷ l) zero x h new = (new, h.1)
  all_set P (y ∷ l) (suc i) x h new = (h.0, all_set P l i x h.1 new)

  pub all-tabulate : (P : A → Type 0) (n : ℕ) (f : ℕ → A) → ((i : ℕ) → i < n → P (f i)) → All P (tabulate n f)
  all-tabulate P zero f h = tt
  all-tabulate P (suc n) f h = (h 0 (omega arith), all-tabulate P n (λ i. f (suc i)) (λ i l. h (suc i) (omega arith)))

  -- an injective function's values do not repeat
  pub distinct-tabulate : (n : ℕ) (f : ℕ → A) → ((i j : ℕ) → i < n → j < n → f i ≡ f j → i ≡ j) → Distinct (tabulate n f)
  distinct-tabulate zero f inj = tt
  distinct-tabulate (suc n) f inj = (
    all-tabulate (λ y. y ≢ f 0) n (λ i. f (suc i)) (λ i l e. omega (arith, inj (suc i) 0 (omega arith) (omega arith) e)),
    distinct-tabulate n (λ i. f (suc i)) (λ i j l k e. omega (arith, inj (suc i) (suc j) (omega arith) (omega arith) e)),
  )

  -- two lists without repetition and with no common member are one
  pub distinct_append : (l k : List A) → Distinct l → Distinct k → All (λ x. All (λ y. y ≢ x) k) l → Distinct (l ++ k)
  distinct_append [] k d e apart = e
  distinct_append (x ∷ l) k d e apart = (all_append (λ y. y ≢ x) l k d.0 apart.0, distinct_append l k d.1 e apart.1)

  -- what fewer things have
  pub at_most_of : {P Q : A → Type 0} {n : ℕ} → ((x : A) → Q x → P x) → AtMost n P → AtMost n Q
  at_most_of f h l d q = h l d (all_map f l q)

  pub at_most_mono : {P Q : A → Type 0} (m n : ℕ) → m ≤ n → ((x : A) → Q x → P x) → AtMost m P → AtMost n Q
  at_most_mono m n m≤n f h l d q = let k : length l ≤ m = at_most_of f h l d q in omega arith

  pub at_most_one : (a : A) → AtMost 1 (λ x. x ≡ a)
  at_most_one a [] d h = omega arith
  at_most_one a (x ∷ []) d h = omega arith
  at_most_one a (x ∷ y ∷ l) d h = absurd (d.0.0 (h.1.0 ∙ sym h.0))

  -- a distinct list whose members each have P or Q, divided into those that have P and those that have Q
  record Divided (P Q : A → Type 0) (l : List A) : Type 1 where
    left : List A
    right : List A
    left-distinct : Distinct left
    right-distinct : Distinct right
    left-all : All P left
    right-all : All Q right
    total : length l ≡ length left + length right
    -- what all members have, those of each part have
    parts : (S : A → Type 0) → All S l → All S left × All S right

  divide : {P Q : A → Type 0} (l : List A) → Distinct l → All (λ x. P x ⊎ Q x) l → Divided P Q l
  divide [] d h = record {
    left = [];
    right = [];
    left-distinct = tt;
    right-distinct = tt;
    left-all = tt;
    right-all = tt;
    total = refl;
    parts = λ S s. (tt, tt);
  }
  divide {P} {Q} (x ∷ l) d h = go h.0 (divide l d.1 h.1)
    where
      go : P x ⊎ Q x → Divided P Q l → Divided P Q (x ∷ l)
      go (inl p) v = record {
        left = x ∷ v.left;
        right = v.right;
        left-distinct = ((v.parts _ d.0).0, v.left-distinct);
        right-distinct = v.right-distinct;
        left-all = (p, v.left-all);
        right-all = v.right-all;
        total = (let e : length l ≡ length v.left + length v.right = v.total in omega arith);
        parts = λ S s. ((s.0, (v.parts S s.1).0), (v.parts S s.1).1);
      }
      go (inr q) v = record {
        left = v.left;
        right = x ∷ v.right;
        left-distinct = v.left-distinct;
        right-distinct = ((v.parts _ d.0).1, v.right-distinct);
        left-all = v.left-all;
        right-all = (q, v.right-all);
        total = (let e : length l ≡ length v.left + length v.right = v.total in omega arith);
        parts = λ S s. ((v.parts S s.1).0, (s.0, (v.parts S s.1).1));
      }

  -- the union bound
  pub at_most_either : {P Q : A → Type 0} (m n : ℕ) → AtMost m P → AtMost n Q → AtMost (m + n) (λ x. P x ⊎ Q x)
  at_most_either {P} {Q} m n hp hq l d h =
      let v : Divided P Q l = divide l d h in
      let a : length v.left ≤ m = hp v.left v.left-distinct v.left-all in
      let b : length v.right ≤ n = hq v.right v.right-distinct v.right-all in
      let e : length l ≡ length v.left + length v.right = v.total in
      omega arith

  -- where each of more than m + n has P or Q, and at most m have P, more than n have Q
  pub more_than_rest : {P Q : A → Type 0} (m n : ℕ) (l : List A) → Distinct l → All (λ x. P x ⊎ Q x) l → AtMost m P → m + n < length l
      → MoreThan n Q
  more_than_rest {P} {Q} m n l d h hp more =
      let v : Divided P Q l = divide l d h in
      let a : length v.left ≤ m = hp v.left v.left-distinct v.left-all in
      let e : length l ≡ length v.left + length v.right = v.total in
      (v.right, v.right-distinct, v.right-all, omega arith)

-- at most n numbers are below n
pub numbers-below : (n : ℕ) → AtMost n (λ i. i < n)
numbers-below zero [] d h = omega arith
numbers-below zero (x ∷ l) d h = absurd (let c : x < 0 = h.0 in omega arith)
numbers-below (suc n) l d h = at_most_mono (n + 1) (suc n) (omega arith) last (at_most_either n 1 (numbers-below n) (at_most_one n)) l d h
  where
    last : (i : ℕ) → i < suc n → (i < n) ⊎ (i ≡ n)
    last i l = elim (ℕ_discrete i n) [ yes e ↦ inr e | no ne ↦ inl (omega arith) ]

module _ {A B : Type 0} (f : A → B) where
  pub all-image : (Q : B → Type 0) (l : List A) → All (λ x. Q (f x)) l → All Q (map f l)
  all-image Q [] h = tt
  all-image Q (x ∷ l) h = (h.0, all-image Q l h.1)

  pub distinct-image : {P : A → Type 0} → ((x y : A) → P x → P y → f x ≡ f y → x ≡ y) → (l : List A) → Distinct l → All P l → Distinct (map f l)
  distinct-image inj [] d p = tt
  distinct-image inj (x ∷ l) d p = (
    all-image (λ z. z ≢ f x) l (all_map₂ (λ y ne py e. ne (inj y x py p.0 e)) l d.0 p.1),
    distinct-image inj l d.1 p.1,
  )

  -- a bound on Q bounds P where f takes P into Q injectively
  pub at_most_injective : {P : A → Type 0} {Q : B → Type 0} (n : ℕ) → ((x y : A) → P x → P y → f x ≡ f y → x ≡ y)
      → ((x : A) → P x → Q (f x)) → AtMost n Q → AtMost n P
  at_most_injective {P} {Q} n inj into h l d p =
      let k : length (map f l) ≤ n = h (map f l) (distinct-image inj l d p) (all-image Q l (all_map into l p)) in
      omega (arith, length-map l f)
