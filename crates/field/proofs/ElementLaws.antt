-- The elements of a prime's field are a commutative ring, in which equality is decided. Assumes nothing.
use Rattle.std.proofs.Common.{◌≡◌, ℕ, ◌+◌, ◌-◌, ◌*◌, ◌%◌, ◌<◌, T, ltb, sym, ap, ◌∙◌, le_of_lt, mod-eq_of_lt, add-sub_of_le, arith, ltb→lt}
use mathlib.Core.HLevel.{is_prop→PathP, hedberg}
use lib.Dec.{T_prop}
use native.Mathlib.Decide.{ℕ_discrete}
use native.Mathlib.Nat
use native.Mathlib.Nat.{mod-add-mod, add-mod-mod, mod_self, zero-mod, add-mod}
use Rattle.algebra.specs.Ring.{CommRing}
use Rattle.field.specs.Prime.{Prime}
use Rattle.field.specs.Element.{Elem, of, 𝟘, 𝟙, ◌⊕◌, ◌⊗◌, neg}
use Rattle.field.proofs.Remainders.{mod-mul-mod, mul_mod_mod}

module _ {q : Prime} where
  -- elements with the same word are equal
  pub same_word : {a b : Elem q} → a.word ≡ b.word → a ≡ b
  same_word {a} {b} e = λ i.
      record {
        word = e i;
        below = is_prop→PathP (λ i. T (ltb (e i) q.p)) (λ i. T_prop (ltb (e i) q.p)) a.below b.below i;
      }

  pub word_below : (a : Elem q) → a.word < q.p
  word_below a = ltb→lt a.word q.p a.below

  pub of_word : (a : Elem q) → of a.word ≡ a
  unfolding of
  of_word a = same_word (mod-eq_of_lt (word_below a))

  pub of-add : (m n : ℕ) → of {q = q} (m + n) ≡ of m ⊕ of n
  unfolding of ◌⊕◌
  of-add m n = same_word (sym (add-mod-mod (m % q.p) n q.p ∙ mod-add-mod m q.p n))

  pub of-mul : (m n : ℕ) → of {q = q} (m * n) ≡ of m ⊗ of n
  unfolding of ◌⊗◌
  of-mul m n = same_word (sym (mul_mod_mod (m % q.p) n q.p ∙ mod-mul-mod m q.p n))

  -- p itself stands for 0, and the numbers between do not
  pub of-p : of {q = q} q.p ≡ 𝟘
  unfolding of
  of-p = same_word (mod_self q.p ∙ sym (zero-mod q.p))

  pub of-not-zero : (n : ℕ) → 0 < n → n < q.p → of {q = q} n ≡ 𝟘 → ⊥
  unfolding of
  of-not-zero n h l e = omega (arith, sym (mod-eq_of_lt l) ∙ ap (λ (x : Elem q). x.word) e ∙ zero-mod q.p)

  pub one_not_zero : 𝟙 {q = q} ≡ 𝟘 → ⊥
  one_not_zero = of-not-zero 1 (omega arith) (omega (arith, q.above_two))

  pub decide : (a b : Elem q) → Dec (a ≡ b)
  decide a b = elim (ℕ_discrete a.word b.word) [ yes e ↦ yes (same_word e) | no f ↦ no (λ e. f (ap (λ (x : Elem q). x.word) e)) ]

  pub Elem-set : IsSet (Elem q)
  Elem-set = hedberg decide

  pub add_assoc : (a b c : Elem q) → a ⊕ b ⊕ c ≡ a ⊕ (b ⊕ c)
  unfolding of ◌⊕◌
  add_assoc a b c =
      same_word
      (mod-add-mod (a.word + b.word) q.p c.word ∙ ap (λ (x : ℕ). x % q.p) (Nat.add_assoc a.word b.word c.word)
      ∙ sym (add-mod-mod a.word (b.word + c.word) q.p))

  pub add_comm : (a b : Elem q) → a ⊕ b ≡ b ⊕ a
  unfolding of ◌⊕◌
  add_comm a b = ap of (Nat.add_comm a.word b.word)

  pub add-zero : (a : Elem q) → a ⊕ 𝟘 ≡ a
  add-zero a = ap (λ (x : Elem q). x ⊕ 𝟘) (sym (of_word a)) ∙ sym (of-add a.word 0) ∙ ap of (Nat.add-zero a.word) ∙ of_word a

  pub add-neg : (a : Elem q) → a ⊕ neg a ≡ 𝟘
  unfolding of ◌⊕◌ neg
  add-neg a =
      same_word
      (add-mod-mod a.word (q.p - a.word) q.p ∙ ap (λ (x : ℕ). x % q.p) (add-sub_of_le (le_of_lt (word_below a)))
      ∙ mod_self q.p ∙ sym (zero-mod q.p))

  pub mul_assoc : (a b c : Elem q) → a ⊗ b ⊗ c ≡ a ⊗ (b ⊗ c)
  unfolding of ◌⊗◌
  mul_assoc a b c =
      same_word
      (mod-mul-mod (a.word * b.word) q.p c.word ∙ ap (λ (x : ℕ). x % q.p) (Nat.mul_assoc a.word b.word c.word)
      ∙ sym (mul_mod_mod a.word (b.word * c.word) q.p))

  pub mul_comm : (a b : Elem q) → a ⊗ b ≡ b ⊗ a
  unfolding of ◌⊗◌
  mul_comm a b = ap of (Nat.mul_comm a.word b.word)

  pub mul_one : (a : Elem q) → a ⊗ 𝟙 ≡ a
  mul_one a = ap (λ (x : Elem q). x ⊗ 𝟙) (sym (of_word a)) ∙ sym (of-mul a.word 1) ∙ ap of (Nat.mul-one a.word) ∙ of_word a

  pub mul-add : (a b c : Elem q) → a ⊗ (b ⊕ c) ≡ a ⊗ b ⊕ a ⊗ c
  unfolding of ◌⊕◌ ◌⊗◌
  mul-add a b c =
      same_word
      (mul_mod_mod a.word (b.word + c.word) q.p ∙ ap (λ (x : ℕ). x % q.p) (Nat.mul-add a.word b.word c.word)
      ∙ add-mod (a.word * b.word) (a.word * c.word) q.p)

-- the ring of a prime's field
abbrev pub prime_ring : (q : Prime) → CommRing (Elem q)
prime_ring q =
    record {
      is_set = Elem-set;
      𝟘 = 𝟘;
      𝟙 = 𝟙;
      ◌⊕◌ = ◌⊕◌;
      ◌⊗◌ = ◌⊗◌;
      neg = neg;
      add_assoc = add_assoc;
      add_comm = add_comm;
      add-zero = add-zero;
      add-neg = add-neg;
      mul_assoc = mul_assoc;
      mul_comm = mul_comm;
      mul_one = mul_one;
      mul-add = mul-add;
    }
