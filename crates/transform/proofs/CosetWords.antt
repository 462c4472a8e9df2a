-- Words that the code computes on the way to a coset and back: running powers, the shift that it uses, and what products of values and
-- differences of remainders stand for. Assumes nothing.
use mathlib.Core.Path.{◌≡◌, sym, ap, ap₂, ◌∙◌, subst⁻¹}
use mathlib.Core.Logic.{◌≢◌}
use mathlib.Core.Bool.{true, not}
use mathlib.Core.List.{List, map}
use Prim.Native.Nat.{ℕ, ◌+◌, ◌-◌, ◌≤◌, ◌<◌}
use native.Mathlib.Omega.{arith}
use native.Mathlib.Numerals.{add-one}
use lib.Dec.{T, T_not, eqb, lit<}
use lib.ListN.{length, get_or}
use borrow.Author.Tests.{eq-eqb}
use Rattle.algebra.specs.Lists.{tabulate}
use Rattle.algebra.specs.Ring.{pow}
use Rattle.algebra.specs.Polynomial.{twist}
use Rattle.algebra.proofs.RingLaws.{sub_zero→eq, one_mul}
use Rattle.algebra.proofs.Division.{length-quotient}
use Rattle.algebra.proofs.PolynomialLaws.{length-tabulate, get_d_tabulate}
use Rattle.field.specs.Prime.{Prime}
use Rattle.field.specs.Element.{Elem, of, 𝟘, 𝟙, ◌⊗◌, ◌⊖◌, words}
use Rattle.field.specs.Power.{power, reciprocal, ◌⊘◌, field_computes}
use Rattle.field.proofs.ElementLaws.{prime_ring, mul_comm, of-not-zero}
use Rattle.field.proofs.Field.{power-is-pow}
use Rattle.field.proofs.Words.{of-result, of_results, nonzero_by_value}
use Rattle.domain.specs.Size.{is_size, max_size}
use Rattle.domain.specs.Domain.{vanishing}
use Rattle.domain.specs.Polynomial.{Poly, ◌⊠◌, quotient, remainder, values_on, interpolate}
use Rattle.domain.specs.Qualifies.{Qualifies}
use Rattle.domain.specs.Known.{Known, KnownPrime, OutsideDomain}
use Rattle.domain.specs.BabyBear.{baby_bear}
use Rattle.domain.proofs.ListLaws.{equal-entries}
use Rattle.domain.proofs.SizeLaws.{power-is_size, size_positive, size_bound}
use Rattle.domain.proofs.DomainLaws.{vanishing-outside, outside-vanishing, outside_subgroup}
use Rattle.domain.proofs.Qualification.{one_word, baby_bear-qualifies}
use Rattle.domain.proofs.Products.{product-remainder}
use Rattle.poly.proofs.WordLists.{element-at}
use Rattle.transform.specs.Product.{Shift}
use Rattle.transform.proofs.CosetLaws.{coset_quotient}

-- the next power from the last one
pub next_power : {q : Prime} (w : Elem q) (i : ℕ) {power r : ℕ} → power ≡ (pow (prime_ring q) w i).word → r ≡ (of {q = q} power ⊗ w).word
    → r ≡ (pow (prime_ring q) w (i + 1)).word
next_power {q} w i last made =
    made
    ∙ ap (λ (y : Elem q). y.word)
    (ap (λ (y : Elem q). y ⊗ w) (of-result (pow (prime_ring q) w i) last) ∙ mul_comm (pow (prime_ring q) w i) w
    ∙ ap (pow (prime_ring q) w) (sym (add-one i)))

-- 31^1024 is not 1 for the module's prime
shift_test : T (not (eqb (power (of {q = baby_bear} 31) max_size).word 1))
unfolding field_computes
shift_test = tt

vanished : {q : Prime} (n : ℕ) (y : Elem q) → vanishing n y ≡ 𝟘 → pow (prime_ring q) y n ≡ 𝟙
unfolding vanishing
vanished {q} n y e = sub_zero→eq (prime_ring q) (pow (prime_ring q) y n) 𝟙 e

module_shift : (n : ℕ) → is_size n ≡ true → Shift n (of {q = baby_bear} 31)
module_shift n size = record {
  not-zero = of-not-zero 31 (lit< tt) (lit< tt);
  outside =
      outside_subgroup baby_bear-qualifies n max_size size (power-is_size 10 (omega arith)) (size_bound n size) (of 31)
      (outside-vanishing baby_bear-qualifies max_size (power-is_size 10 (omega arith)) (of 31) apart);
}
  where
    apart : vanishing max_size (of {q = baby_bear} 31) ≢ 𝟘
    apart e = T_not (eqb (power (of {q = baby_bear} 31) max_size).word 1) shift_test
        (rw (eq-eqb (power (of {q = baby_bear} 31) max_size).word 1
        (ap (λ (x : Elem baby_bear). x.word) (power-is-pow (of {q = baby_bear} 31) max_size ∙ vanished max_size (of 31) e)
        ∙ one_word baby_bear)) tt)

-- 31, the generator of a known prime, is in no domain
pub known_shift : {q : Prime} {p : ℕ} → Known q p → (n : ℕ) → is_size n ≡ true → Shift n (of {q = q} 31)
known_shift known n size = subst⁻¹ (λ (q : Prime). Shift n (of {q = q} 31)) known.is_module (module_shift n size)

-- for every prime that the code knows by its value
pub shift_outside : {p : ℕ} → KnownPrime p → (n : ℕ) → is_size n ≡ true → OutsideDomain p n 31
shift_outside k n size = record { over = k; is-outside = (known_shift k.known n size).outside }

pub shift_not-zero : {p : ℕ} → KnownPrime p → (q : Prime) → q.p ≡ p → of {q = q} 31 ≢ 𝟘
shift_not-zero k q e =
    nonzero_by_value (e ∙ sym k.known.value) 31 (known_shift k.known max_size (power-is_size 10 (omega arith))).not-zero

-- 1/a is the reciprocal
pub reciprocal_word : (q : Prime) (a : ℕ) {r : ℕ} → r ≡ (𝟙 ⊘ of {q = q} a).word → r ≡ (reciprocal (of {q = q} a)).word
reciprocal_word q a made = made ∙ ap (λ (x : Elem q). x.word) (one_mul (prime_ring q) (reciprocal (of a)))

module _ {q : Prime} (Q : Qualifies q) (n : ℕ) (size : is_size n ≡ true) (f g : Poly q) where
  -- products of the words of values on the domain
  pub product-words : (left right : List ℕ) → map of left ≡ values_on n f → map of right ≡ values_on n g
      → interpolate n (tabulate n (λ i. of {q = q} (get_or left i 0) ⊗ of (get_or right i 0))) ≡ remainder n (f ⊠ g)
  product-words left right of_left of_right =
      product-remainder Q n size f g _ (λ i l.
      get_d_tabulate n i (λ i. of {q = q} (get_or left i 0) ⊗ of (get_or right i 0)) 𝟘 l
      ∙ ap₂ (λ (x y : Elem q). x ⊗ y)
      (element-at left i ∙ ap (λ (vs : List (Elem q)). get_or vs i 𝟘) of_left)
      (element-at right i ∙ ap (λ (vs : List (Elem q)). get_or vs i 𝟘) of_right))

  -- the quotient's words from those of the two remainders
  pub quotient-words : (m s turn share v : ℕ) → Shift n (of {q = q} s) → length (f ⊠ g) ≡ m + n → m ≤ n → (plain turned : List ℕ)
      → plain ≡ words (remainder n (f ⊠ g)) → turned ≡ words (remainder n (twist (prime_ring q) (of s) f ⊠ twist (prime_ring q) (of s) g))
      → turn ≡ (reciprocal (of {q = q} s)).word → v ≡ (vanishing n (of {q = q} s)).word → share ≡ (reciprocal (of {q = q} v)).word
      → tabulate m (λ i. (pow (prime_ring q) (of turn) i ⊗ of (get_or turned i 0) ⊖ of (get_or plain i 0)) ⊗ of share) ≡ quotient n (f ⊠ g)
  quotient-words m s turn share v shift long short plain turned is_plain is_turned is-turn is-v is_share =
      equal-entries 𝟘 _ _
      (length-tabulate m rule ∙ sym (length-quotient (prime_ring q) n (f ⊠ g) (size_positive n size) ∙ rest))
      (λ i l.
      let below : i < m = omega (arith, length-tabulate m rule) in
      get_d_tabulate m i rule 𝟘 below
      ∙ ap₂ (λ (x y : Elem q). x ⊗ y)
      (ap₂ (λ (x y : Elem q). x ⊖ y)
      (ap₂ (λ (x y : Elem q). pow (prime_ring q) x i ⊗ y) (of-result (reciprocal (of s)) is-turn)
      (element-at turned i
      ∙ ap (λ (h : Poly q). get_or h i 𝟘) (of_results (remainder n (twist (prime_ring q) (of s) f ⊠ twist (prime_ring q) (of s) g)) is_turned)))
      (element-at plain i ∙ ap (λ (h : Poly q). get_or h i 𝟘) (of_results (remainder n (f ⊠ g)) is_plain)))
      (of-result (reciprocal (of v)) is_share ∙ ap reciprocal (of-result (vanishing n (of s)) is-v))
      ∙ sym (coset_quotient Q n size (of s) f g (omega arith) shift.not-zero
      (vanishing-outside Q n size (of s) shift.outside) i (omega arith)))
    where
      rule : ℕ → Elem q
      rule i = (pow (prime_ring q) (of turn) i ⊗ of (get_or turned i 0) ⊖ of (get_or plain i 0)) ⊗ of share

      rest : length (f ⊠ g) - n ≡ m
      rest = omega arith
