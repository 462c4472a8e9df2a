-- Text put into a buffer and known to be short, and words in decimal. Assumes nothing.
use mathlib.Core.List.{List, [], ◌∷◌, ◌++◌, foldr}
use Rattle.std.specs.Prelude.{ℕ, ◌≤◌, length}
use Rattle.text.specs.Decimal.{decimal}
use Rattle.text.specs.Written.{Written}
use Rattle.report.specs.ProofText.{space}

-- the text stands in the buffer from `at` on, `place` is the place after it, and it is at most so long
pub record Printed (before : List ℕ) (at : ℕ) (text : List ℕ) (most place : ℕ) (after : List ℕ) : Type 0 where
  pub written : Written before at text place after
  pub short : length text ≤ most

-- a space and the number
abbrev pub number : ℕ → List ℕ
number n = space ∷ decimal n

-- the same for each word
unfoldable pub numbers : List ℕ → List ℕ
numbers ws = foldr (λ w rest. number w ++ rest) [] ws
