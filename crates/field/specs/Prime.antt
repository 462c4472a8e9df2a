-- A prime number with its generator: the parameter of all that follows (document 01, "Field and domains"). Assumes nothing.
use Rattle.std.specs.Prelude.{ℕ, ◌%◌, ◌<◌, ◌≢◌}

-- p is more than 2 and no number between 1 and p divides it; powers of the generator give the domains
pub record Prime : Type 0 where
  pub p : ℕ
  pub above_two : 2 < p
  pub undivided : (d : ℕ) → 1 < d → d < p → p % d ≢ 0
  pub generator : ℕ
