-- What a prime with its generator must bring so that the eleven domains exist and words have 32 bits
-- (document 01, "Field and domains"). Assumes nothing.
use Rattle.std.specs.Prelude.{◌≡◌, ℕ, ◌-◌, ◌%◌, ◌^◌, ◌<◌}
use Rattle.algebra.specs.Ring.{Order}
use Rattle.field.specs.Prime.{Prime}
use Rattle.field.proofs.ElementLaws.{prime_ring}
use Rattle.domain.specs.Size.{max_size}
use Rattle.domain.specs.Domain.{root}

pub record Qualifies (q : Prime) : Type 0 where
  -- two words add up to a word of 32 bits
  pub small : q.p < 2 ^ 31
  -- each size divides p - 1
  pub divided : (q.p - 1) % max_size ≡ 0
  -- "the eleven generators .. each shown to have order n"
  pub orders : (k : ℕ) → k < 11 → Order (prime_ring q) (2 ^ k) (root (2 ^ k))
