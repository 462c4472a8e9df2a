-- What the six tests of the sizes say. Assumes nothing.
use mathlib.Core.Path.{◌≡◌}
use mathlib.Core.Bool.{true}
use Prim.Native.Nat.{ℕ, ◌≤◌, ◌<◌}
use lib.Dec.{leb, eqb}
use borrow.Author.Tests.{leb-true}
use native.Mathlib.Omega.{arith}
use Rattle.domain.specs.Size.{is_size, max_size}
use Rattle.domain.proofs.SizeLaws.{size_positive, size_bound, largest-is_size}
use Rattle.protocol.specs.Three.{MatrixName, A, B, C, at}
use Rattle.protocol.specs.Circuit.{Sizes, largest}
use Rattle.protocol.specs.Refusals.{size_tests, six_size_tests}
use Rattle.protocol.specs.Session.{all, in_turn}
use Rattle.protocol.proofs.RefusalLaws.{and-true, true-all}

pub record Allowed (s : Sizes) : Type 0 where
  pub R-size : is_size s.|R| ≡ true
  pub C-size : is_size s.|C| ≡ true
  pub X-size : is_size s.|X| ≡ true
  pub X-within : s.|X| ≤ s.|C|
  pub K-size : (M : MatrixName) → is_size (at s.|K| M) ≡ true

pub allowed : (s : Sizes) → all (six_size_tests s) ≡ true → Allowed s
unfolding six_size_tests size_tests
allowed s e =
    let (r, (c, (x, (a, (b, (d, _)))))) = true-all (six_size_tests s) e in
    let (size, within) = and-true (is_size s.|X|) (leb s.|X| s.|C|) x in
    record {
      R-size = r;
      C-size = c;
      X-size = size;
      X-within = leb-true s.|X| s.|C| within;
      K-size = elim [ A ↦ a | B ↦ b | C ↦ d ];
    }

pub in_turn_allowed : (n stage : ℕ) (s : Sizes) → in_turn n stage s ≡ true → Allowed s
unfolding in_turn
in_turn_allowed n stage s e = allowed s (and-true (eqb stage n) _ e).1

pub largest_size : (s : Sizes) → Allowed s → is_size (largest s.|K|) ≡ true
unfolding largest
largest_size s w = largest-is_size s.|K|.a s.|K|.b s.|K|.c (w.K-size A) (w.K-size B) (w.K-size C)

pub size_within : (s : Sizes) (M : MatrixName) → at s.|K| M ≤ largest s.|K|
unfolding largest
size_within s A = omega arith
size_within s B = omega arith
size_within s C = omega arith

-- a size is from 1 to 1,024
pub size_range : (n : ℕ) → is_size n ≡ true → (0 < n) × (n ≤ max_size)
size_range n s = (size_positive n s, size_bound n s)
