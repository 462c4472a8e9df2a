-- Sizes that are allowed are at most 1,024, and the sections that they give have at most 2,048 words each. Assumes nothing.
use Rattle.std.proofs.Common.{List, [], ◌∷◌, ℕ, zero, suc, ◌*◌, ◌≤◌, arith, leb, get_or, take}
use Rattle.algebra.specs.Counting.{All}
use Rattle.algebra.proofs.Counting.{all_map}
use Rattle.domain.specs.Size.{is_size}
use Rattle.domain.proofs.SizeLaws.{size_bound}
use Rattle.protocol.specs.Three.{listed}
use Rattle.protocol.specs.Circuit.{Sizes, largest}
use Rattle.protocol.specs.Messages.{lengths}
use Rattle.protocol.specs.Refusals.{size_tests, six_size_tests}
use Rattle.protocol.specs.Record.{section_lengths}
use Rattle.protocol.proofs.RefusalLaws.{and-true}
use Rattle.record.specs.Layout.{Allowed, byte_count}

module _ (s : Sizes) (allowed : Allowed s) where
  sizes_bound : All (λ n. n ≤ 1024) (s.|R| ∷ s.|C| ∷ s.|X| ∷ listed s.|K|)
  unfolding six_size_tests size_tests
  sizes_bound =
      let (r, (c, (x, k))) = allowed in
      all_map size_bound (s.|R| ∷ s.|C| ∷ s.|X| ∷ listed s.|K|) (r, (c, ((and-true (is_size s.|X|) (leb s.|X| s.|C|) x).0, k)))

  pub lengths_bound : All (λ n. n ≤ 2048) (section_lengths s)
  unfolding section_lengths lengths largest
  lengths_bound = omega (arith, sizes_bound)

-- one of such lengths, and the bytes of the first k of them
pub member_bound : (l : List ℕ) (k : ℕ) → All (λ n. n ≤ 2048) l → get_or l k 0 ≤ 2048
member_bound [] k h = omega arith
member_bound (n ∷ l) zero h = h.0
member_bound (n ∷ l) (suc k) h = member_bound l k h.1

pub byte_count_bound : (l : List ℕ) (k : ℕ) → All (λ n. n ≤ 2048) l → byte_count (take k l) ≤ 8192 * k
byte_count_bound l zero h = omega arith
byte_count_bound [] (suc k) h = omega arith
byte_count_bound (n ∷ l) (suc k) h = omega (arith, byte_count_bound l k h.1)
