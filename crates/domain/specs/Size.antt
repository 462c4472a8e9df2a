-- The sizes that a domain may have (document 01, "Field and domains"). Assumes nothing.
use Rattle.std.specs.Prelude.{Bool, List, ℕ, ◌^◌, eqb, leb}
use Rattle.algebra.specs.Lists.{tabulate, any, first_or}

-- the largest size, which is also the most entries that a matrix may have
abbrev pub max_size : ℕ
max_size = 1024

-- 1, 2, 4, .., 1,024
unfoldable pub sizes : List ℕ
sizes = tabulate 11 (λ k. 2 ^ k)

-- "a size is a power of two from 1 to 1,024"
unfoldable pub is_size : ℕ → Bool
is_size n = any (eqb n) sizes

-- "the smallest size not below the entry count (1 for none)"
unfoldable pub size_for : ℕ → ℕ
size_for count = first_or max_size (leb count) sizes
