-- A test that computes whether an element has a given order, by a look at each power, and that it is sound. Assumes nothing.
use mathlib.Core.Path.{◌≡◌, sym, ◌∙◌}
use mathlib.Core.Bool.{Bool, true, not, ◌&&◌}
use mathlib.Core.List.{[], ◌∷◌}
use Prim.Native.Nat.{ℕ, zero, suc, ◌-◌, ◌<◌}
use lib.Dec.{T, T_not, eqb→eq}
use native.Mathlib.Omega.{arith}
use native.Mathlib.Nat.{not-suc-le-zero, le_of_suc-le-suc}
use Rattle.algebra.specs.Ring.{Order, pow}
use Rattle.algebra.proofs.RingLaws.{one_mul}
use Rattle.algebra.proofs.Solver.{◌:*◌, ◌:=◌, ring}
use Rattle.field.specs.Prime.{Prime}
use Rattle.field.specs.Element.{Elem, 𝟙, ◌⊗◌, equal}
use Rattle.field.specs.Power.{power}
use Rattle.field.proofs.Primality.{and_left, and_right}
use Rattle.field.proofs.ElementLaws.{same_word, mul_comm, prime_ring}
use Rattle.field.proofs.Field.{power-is-pow, true-equal}

module _ {q : Prime} where
  -- none of the n elements x, g·x, g·g·x, .. is 1
  none-is_one : ℕ → Elem q → Elem q → Bool
  none-is_one zero g x = true
  none-is_one (suc n) g x = not (equal x 𝟙) && none-is_one n g (g ⊗ x)

  none-is_one_sound : (n : ℕ) (g x : Elem q) → T (none-is_one n g x) → (i : ℕ) → i < n → pow (prime_ring q) g i ⊗ x ≡ 𝟙 → ⊥
  unfolding none-is_one
  none-is_one_sound zero g x t i h e = not-suc-le-zero h
  none-is_one_sound (suc n) g x t zero h e =
      T_not (equal x 𝟙) (and_left (not (equal x 𝟙)) (none-is_one n g (g ⊗ x)) t)
      (rw (true-equal x 𝟙 (sym (one_mul (prime_ring q) x) ∙ e)) tt)
  none-is_one_sound (suc n) g x t (suc i) h e =
      none-is_one_sound n g (g ⊗ x) (and_right (not (equal x 𝟙)) (none-is_one n g (g ⊗ x)) t) i (le_of_suc-le-suc h)
      (ring (prime_ring q) (g ∷ x ∷ pow (prime_ring q) g i ∷ []) (λ g x p. p :* (g :* x) := g :* p :* x) tt ∙ e)

  -- g has order n: its power n is 1, and none of g, g², .., g^(n-1) is
  unfoldable pub has_order : ℕ → Elem q → Bool
  unfolding none-is_one
  has_order n g = equal (power g n) 𝟙 && none-is_one (n - 1) g g

  pub has_order_sound : (n : ℕ) (g : Elem q) → T (has_order n g) → Order (prime_ring q) n g
  unfolding has_order
  has_order_sound n g t =
      record {
        full =
            sym (power-is-pow g n)
            ∙ same_word (eqb→eq (power g n).word (𝟙 {q = q}).word (and_left (equal (power g n) 𝟙) (none-is_one (n - 1) g g) t));
        first = before;
      }
    where
      before : (i : ℕ) → 0 < i → i < n → pow (prime_ring q) g i ≡ 𝟙 → ⊥
      before zero h l e = not-suc-le-zero h
      before (suc i) h l e =
          none-is_one_sound (n - 1) g g (and_right (equal (power g n) 𝟙) (none-is_one (n - 1) g g) t) i (omega arith)
          (mul_comm (pow (prime_ring q) g i) g ∙ e)
