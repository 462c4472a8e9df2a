-- The table of the eleven generators (document 01, "Field and domains"): entry k has order 2^k and is the word of g_n for n = 2^k,
-- each shown by one test over the whole table. Assumes nothing.
use mathlib.Core.Path.{◌≡◌}
use mathlib.Core.Bool.{Bool, true, ◌&&◌}
use mathlib.Core.List.{List, [], ◌∷◌}
use Prim.Native.Nat.{ℕ, zero, suc, ◌^◌, ◌<◌}
use native.Mathlib.Nat.{le_of_suc-le-suc, not-suc-le-zero}
use lib.Dec.{T, eqb, eqb→eq}
use lib.ListN.{length, get_or}
use Rattle.algebra.specs.Ring.{Order}
use Rattle.field.specs.Element.{of}
use Rattle.field.specs.Power.{field_computes}
use Rattle.field.proofs.Primality.{and_left, and_right}
use Rattle.field.proofs.ElementLaws.{prime_ring}
use Rattle.field.proofs.Words.{of-result}
use Rattle.domain.specs.Domain.{root}
use Rattle.domain.specs.BabyBear.{baby_bear}
use Rattle.domain.specs.GeneratorTable.{generator_table}
use Rattle.domain.proofs.OrderTest.{has_order, has_order_sound}

-- each entry passes the test of its place
each-entry : (ℕ → ℕ → Bool) → List ℕ → Bool
each-entry test [] = true
each-entry test (x ∷ table) = test 0 x && each-entry (λ k. test (suc k)) table

each-entry-sound : (test : ℕ → ℕ → Bool) (table : List ℕ) → T (each-entry test table) → (k : ℕ) → k < length table
    → T (test k (get_or table k 0))
unfolding each-entry
each-entry-sound test [] t k h = absurd (not-suc-le-zero h)
each-entry-sound test (x ∷ table) t zero h = and_left (test 0 x) (each-entry (λ k. test (suc k)) table) t
each-entry-sound test (x ∷ table) t (suc k) h =
    each-entry-sound (λ k. test (suc k)) table (and_right (test 0 x) (each-entry (λ k. test (suc k)) table) t) k (le_of_suc-le-suc h)

-- x stands for an element of order 2^k
order_test : ℕ → ℕ → Bool
order_test k x = has_order {q = baby_bear} (2 ^ k) (of x)

-- x is the word of g_n for n = 2^k
root_test : ℕ → ℕ → Bool
root_test k x = eqb x (root {q = baby_bear} (2 ^ k)).word

orders_tested : T (each-entry order_test generator_table)
unfolding field_computes has_order order_test each-entry generator_table
orders_tested = tt

roots_tested : T (each-entry root_test generator_table)
unfolding field_computes root root_test each-entry generator_table
roots_tested = tt

-- "each shown to have order n"
pub generator_order : (k : ℕ) → k < 11 → Order (prime_ring baby_bear) (2 ^ k) (of (get_or generator_table k 0))
unfolding generator_table order_test
generator_order k h = has_order_sound (2 ^ k) (of (get_or generator_table k 0)) (each-entry-sound order_test generator_table orders_tested k h)

-- "g_n = 31^((p-1)/n)"
pub generator-is-root : (k : ℕ) → k < 11 → get_or generator_table k 0 ≡ (root {q = baby_bear} (2 ^ k)).word
unfolding generator_table root_test
generator-is-root k h =
    eqb→eq (get_or generator_table k 0) (root {q = baby_bear} (2 ^ k)).word (each-entry-sound root_test generator_table roots_tested k h)

-- g_n has order n
pub root_order : (k : ℕ) → k < 11 → Order (prime_ring baby_bear) (2 ^ k) (root (2 ^ k))
root_order k h = rw (of-result (root (2 ^ k)) (generator-is-root k h)) at (generator_order k h)
