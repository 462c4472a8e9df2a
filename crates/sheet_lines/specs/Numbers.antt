-- Decimal numbers read from text. Assumes nothing.
use Rattle.std.specs.Prelude.{Bool, ◌&&◌, ◌||◌, List, [], ◌∷◌, ℕ, ◌+◌, ◌-◌, ◌*◌, min, eqb, leb}
use Rattle.std.proofs.Math.Option.{Option, none, some}
use Rattle.algebra.specs.Lists.{pick}

-- a larger number is read as this one: no size and no count is as large
abbrev pub largest_read : ℕ
largest_read = 65535

abbrev pub is_digit : ℕ → Bool
is_digit b = leb 48 b && leb b 57

-- space, tab, newline, carriage return
abbrev pub is_blank : ℕ → Bool
is_blank b = eqb b 32 || eqb b 9 || eqb b 10 || eqb b 13

-- a number with one more digit
abbrev pub extend : Option ℕ → ℕ → ℕ
extend none b = b - 48
extend (some n) b = min (10 * n + (b - 48)) largest_read

-- the number that ends here, if any, before the numbers after it
abbrev pub ended : Option ℕ → Option (List ℕ) → Option (List ℕ)
ended last none = none
ended none (some l) = some l
ended (some n) (some l) = some (n ∷ l)

-- the numbers of a text of digits and blanks, after a number whose digits so far were read; none where another byte stands in it
unfoldable pub numbers_after : Option ℕ → List ℕ → Option (List ℕ)
numbers_after last [] = ended last (some [])
numbers_after last (b ∷ l) =
    pick (is_digit b) (numbers_after (some (extend last b)) l) (pick (is_blank b) (ended last (numbers_after none l)) none)

unfoldable pub numbers_in : List ℕ → Option (List ℕ)
numbers_in text = numbers_after none text
