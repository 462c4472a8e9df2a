-- Laws of `keep`, the members of a list that pass a test, and of `any`, whether some member does. Assumes nothing.
use mathlib.Core.Path.{◌≡◌, refl, sym, ap, ap₂, ◌∙◌, fun_ext}
use mathlib.Core.Bool.{Bool, true, false, not, ◌&&◌, ◌||◌, true≢false, or-true, and_comm}
use mathlib.Core.List.{List, [], ◌∷◌, ◌++◌}
use Prim.Native.Nat.{ℕ, zero, suc, ◌+◌, ◌≤◌, ◌<◌}
use native.Mathlib.Nat.{zero-add, suc-add}
use native.Mathlib.Omega.{arith}
use lib.ListN.{length, get_or, length-append}
use Rattle.algebra.specs.Lists.{pick, tabulate, keep, any}
use Rattle.algebra.specs.Counting.{All}

module _ {T : Type 0} (t : T → Bool) where
  -- a member that passes is kept, one that does not is left out
  pub keep_one : {x : T} (l : List T) → t x ≡ true → keep t (x ∷ l) ≡ x ∷ keep t l
  unfolding pick
  keep_one {x} l e = ap (λ (b : Bool). pick b (x ∷ keep t l) (keep t l)) e

  pub keep-not : {x : T} (l : List T) → t x ≡ false → keep t (x ∷ l) ≡ keep t l
  unfolding pick
  keep-not {x} l e = ap (λ (b : Bool). pick b (x ∷ keep t l) (keep t l)) e

  pub keep_append : (l k : List T) → keep t (l ++ k) ≡ keep t l ++ keep t k
  unfolding pick
  keep_append [] k = refl
  keep_append (x ∷ l) k = go (t x) (keep_append l k)
    where
      go : (b : Bool) → keep t (l ++ k) ≡ keep t l ++ keep t k
          → pick b (x ∷ keep t (l ++ k)) (keep t (l ++ k)) ≡ pick b (x ∷ keep t l) (keep t l) ++ keep t k
      go true rest = ap (λ (r : List T). x ∷ r) rest
      go false rest = rest

  pub keep_all : (l : List T) → All (λ x. t x ≡ true) l → keep t l ≡ l
  keep_all [] h = refl
  keep_all (x ∷ l) h = keep_one l h.0 ∙ ap (λ (r : List T). x ∷ r) (keep_all l h.1)

  pub keep-none : (l : List T) → All (λ x. t x ≡ false) l → keep t l ≡ []
  keep-none [] h = refl
  keep-none (x ∷ l) h = keep-not l h.0 ∙ keep-none l h.1

  -- one member more, between others
  pub keep_without : {x : T} (l k : List T) → t x ≡ false → keep t (l ++ (x ∷ k)) ≡ keep t (l ++ k)
  keep_without {x} l k e = keep_append l (x ∷ k) ∙ ap (λ (r : List T). keep t l ++ r) (keep-not k e) ∙ sym (keep_append l k)

  pub length-keep_with : {x : T} (l k : List T) → t x ≡ true → length (keep t (l ++ (x ∷ k))) ≡ suc (length (keep t (l ++ k)))
  length-keep_with {x} l k e =
      ap length (keep_append l (x ∷ k) ∙ ap (λ (r : List T). keep t l ++ r) (keep_one k e))
      ∙ simp length-append (omega arith)
      ∙ sym (ap (λ r. suc (length r)) (keep_append l k))

  -- what is kept passes, and has what all members have
  pub kept_pass : (l : List T) → All (λ x. t x ≡ true) (keep t l)
  unfolding pick
  kept_pass [] = tt
  kept_pass (x ∷ l) = go (t x) refl (kept_pass l)
    where
      go : (b : Bool) → t x ≡ b → All (λ x. t x ≡ true) (keep t l) → All (λ x. t x ≡ true) (pick b (x ∷ keep t l) (keep t l))
      go true e rest = (e, rest)
      go false e rest = rest

  pub kept-all : (P : T → Type 0) (l : List T) → All P l → All P (keep t l)
  unfolding pick
  kept-all P [] h = tt
  kept-all P (x ∷ l) h = go (t x) (kept-all P l h.1)
    where
      go : (b : Bool) → All P (keep t l) → All P (pick b (x ∷ keep t l) (keep t l))
      go true rest = (h.0, rest)
      go false rest = rest

  pub length-keep : (l : List T) → length (keep t l) ≤ length l
  unfolding pick
  length-keep [] = omega arith
  length-keep (x ∷ l) = go (t x) (length-keep l)
    where
      go : (b : Bool) → length (keep t l) ≤ length l → length (pick b (x ∷ keep t l) (keep t l)) ≤ suc (length l)
      go true rest = omega (arith, rest)
      go false rest = omega (arith, rest)

-- what is kept of the first n + m members by a rule: of the first n, then of the m after them
pub keep-tabulate-add :
    {T : Type 0} (t : T → Bool) (n m : ℕ) (f : ℕ → T)
    → keep t (tabulate (n + m) f) ≡ keep t (tabulate n f) ++ keep t (tabulate m (λ i. f (n + i)))
keep-tabulate-add {T} t n m f = ap (keep t) (go n f) ∙ keep_append t (tabulate n f) (tabulate m (λ i. f (n + i)))
  where
    go : (n : ℕ) (f : ℕ → T) → tabulate (n + m) f ≡ tabulate n f ++ tabulate m (λ i. f (n + i))
    go zero f = ap₂ (λ (k : ℕ) (g : ℕ → T). tabulate k g) (zero-add m) (fun_ext (λ i. ap f (sym (zero-add i))))
    go (suc n) f =
        ap (λ (k : ℕ). tabulate k f) (suc-add n m)
        ∙ ap (λ (l : List T). f 0 ∷ l)
        (go n (λ i. f (suc i))
        ∙ ap (λ (g : ℕ → T). tabulate n (λ i. f (suc i)) ++ tabulate m g) (fun_ext (λ i. ap f (sym (suc-add n i)))))

-- what passes and what does not are all there is
pub length-keep_both : {T : Type 0} (t : T → Bool) (l : List T) → length (keep t l) + length (keep (λ x. not (t x)) l) ≡ length l
unfolding pick
length-keep_both t [] = refl
length-keep_both {T} t (x ∷ l) = go (t x) (keep t l) (keep (λ x. not (t x)) l) (length-keep_both t l)
  where
    go : (b : Bool) (kept others : List T) → length kept + length others ≡ length l
        → length (pick b (x ∷ kept) kept) + length (pick (not b) (x ∷ others) others) ≡ suc (length l)
    go true kept others rest = omega (arith, rest)
    go false kept others rest = omega (arith, rest)

-- a test that passes wherever another does keeps as many or more
pub length-keep_mono :
    {T : Type 0} (s t : T → Bool) → ((x : T) → s x ≡ true → t x ≡ true) → (l : List T) → length (keep s l) ≤ length (keep t l)
unfolding pick
length-keep_mono s t imply [] = omega arith
length-keep_mono s t imply (x ∷ l) = go (s x) (t x) (imply x) (length-keep_mono s t imply l)
  where
    go : (b d : Bool) → (b ≡ true → d ≡ true) → length (keep s l) ≤ length (keep t l)
        → length (pick b (x ∷ keep s l) (keep s l)) ≤ length (pick d (x ∷ keep t l) (keep t l))
    go true true h rest = omega (arith, rest)
    go true false h rest = absurd (true≢false (sym (h refl)))
    go false true h rest = omega (arith, rest)
    go false false h rest = rest

-- a test that cannot pass fails; two tests are the same where each passes when the other does
pub test_fails : (b : Bool) → ¬ (b ≡ true) → b ≡ false
test_fails true h = absurd (h refl)
test_fails false h = refl

pub same_test : (a b : Bool) → (a ≡ true → b ≡ true) → (b ≡ true → a ≡ true) → a ≡ b
same_test true b there back = sym (there refl)
same_test false true there back = back refl
same_test false false there back = refl

-- the same test keeps the same members
pub keep_same : {T : Type 0} (s t : T → Bool) → ((x : T) → s x ≡ t x) → (l : List T) → keep s l ≡ keep t l
keep_same s t same [] = refl
keep_same {T} s t same (x ∷ l) = ap₂ (λ (b : Bool) (k : List T). pick b (x ∷ k) k) (same x) (keep_same s t same l)

-- what is kept of what is kept passes both tests: in either order, and where one test passes wherever the other does that other alone
module _ {T : Type 0} (s t : T → Bool) where
  pub keep-keep : (l : List T) → keep s (keep t l) ≡ keep (λ x. t x && s x) l
  unfolding pick
  keep-keep [] = refl
  keep-keep (x ∷ l) = go (t x) (keep-keep l)
    where
      go : (b : Bool) → keep s (keep t l) ≡ keep (λ x. t x && s x) l
          → keep s (pick b (x ∷ keep t l) (keep t l)) ≡ pick (b && s x) (x ∷ keep (λ x. t x && s x) l) (keep (λ x. t x && s x) l)
      go true rest = ap (λ (k : List T). pick (s x) (x ∷ k) k) rest
      go false rest = rest

  pub keep-within : ((x : T) → s x ≡ true → t x ≡ true) → (l : List T) → keep s (keep t l) ≡ keep s l
  keep-within within l = keep-keep l ∙ keep_same (λ x. t x && s x) s (λ x. go (t x) (s x) (within x)) l
    where
      go : (a b : Bool) → (b ≡ true → a ≡ true) → (a && b) ≡ b
      go true b h = refl
      go false true h = h refl
      go false false h = refl

pub keep_swap : {T : Type 0} (s t : T → Bool) (l : List T) → keep s (keep t l) ≡ keep t (keep s l)
keep_swap s t l = keep-keep s t l ∙ keep_same (λ x. t x && s x) (λ x. s x && t x) (λ x. and_comm (t x) (s x)) l ∙ sym (keep-keep t s l)

-- what those that pass and those that do not have, all have
pub all-keep_both : {T : Type 0} (t : T → Bool) (P : T → Type 0) (l : List T) → All P (keep t l) → All P (keep (λ x. not (t x)) l) → All P l
unfolding pick
all-keep_both t P [] kept others = tt
all-keep_both t P (x ∷ l) kept others = go (t x) (all-keep_both t P l) kept others
  where
    go : (b : Bool) → (All P (keep t l) → All P (keep (λ x. not (t x)) l) → All P l) → All P (pick b (x ∷ keep t l) (keep t l))
        → All P (pick (not b) (x ∷ keep (λ x. not (t x)) l) (keep (λ x. not (t x)) l)) → All P (x ∷ l)
    go true rest k o = (k.0, rest k.1 o)
    go false rest k o = (o.0, rest k o.1)

module _ {T : Type 0} (t : T → Bool) where
  -- no member passes: all fail
  pub any_none : (l : List T) → All (λ x. t x ≡ false) l → any t l ≡ false
  any_none [] h = refl
  any_none (x ∷ l) h = ap₂ ◌||◌ h.0 (any_none l h.1)

  pub none_any : (l : List T) → any t l ≡ false → All (λ x. t x ≡ false) l
  none_any [] e = tt
  none_any (x ∷ l) e = go (t x) refl e (none_any l)
    where
      go : (b : Bool) → t x ≡ b → (b || any t l) ≡ false → (any t l ≡ false → All (λ x. t x ≡ false) l) → All (λ x. t x ≡ false) (x ∷ l)
      go true u v rest = absurd (true≢false v)
      go false u v rest = (u, rest v)

  -- a member that passes, by its place
  pub any_at : (l : List T) (k : ℕ) (z : T) → k < length l → t (get_or l k z) ≡ true → any t l ≡ true
  any_at [] k z below e = absurd (omega arith)
  any_at (x ∷ l) zero z below e = ap (λ (b : Bool). b || any t l) e
  any_at (x ∷ l) (suc k) z below e = ap (λ (b : Bool). t x || b) (any_at l k z (omega arith) e) ∙ or-true (t x)

  pub any_append : (l k : List T) → any t (l ++ k) ≡ (any t l || any t k)
  any_append [] k = refl
  any_append (x ∷ l) k = go (t x) (any_append l k)
    where
      go : (b : Bool) → any t (l ++ k) ≡ (any t l || any t k) → (b || any t (l ++ k)) ≡ ((b || any t l) || any t k)
      go true rest = refl
      go false rest = rest
