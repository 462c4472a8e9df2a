-- The words of the first bytes are words of all bytes, and so are their tests. Assumes nothing.
use Rattle.std.proofs.Common.{◌≡◌, ap, ◌∙◌, Bool, List, map, ℕ, ◌+◌, ◌*◌, ◌/◌, ◌<◌, ◌≤◌, arith, ltb, length, get_or, take, length-take-le, get_or-take}
use lib.ListN.{length-map}
use Rattle.algebra.proofs.PolynomialLaws.{length-tabulate, get_d_tabulate}
use Rattle.protocol.specs.Record.{word_at, words_in}
use Rattle.protocol.proofs.Rows.{map_at}

module _ (bytes : List ℕ) (total count : ℕ) (whole : 4 * count ≡ total) (fits : total ≤ length bytes) where
  abbrev part : List ℕ
  part = take total bytes

  part-words : length part / 4 ≡ count
  part-words = omega (arith, length-take-le total bytes fits)

  length-words : length (words_in part) ≡ count
  unfolding words_in
  length-words = length-tabulate (length part / 4) (word_at part) ∙ part-words

  word_of_part : (i : ℕ) → i < count → get_or (words_in part) i 0 ≡ word_at bytes i
  unfolding words_in word_at
  word_of_part i below =
      get_d_tabulate (length part / 4) i (word_at part) 0 (omega (arith, part-words))
      ∙ cc (byte 0 (omega arith), byte 1 (omega arith), byte 2 (omega arith), byte 3 (omega arith))
    where
      byte : (k : ℕ) → k < 4 → get_or part (4 * i + k) 0 ≡ get_or bytes (4 * i + k) 0
      byte k small = get_or-take total bytes (4 * i + k) 0 (omega arith)

  -- the row of the words of the part
  module _ (p : ℕ) where
    abbrev tests : List Bool
    tests = map (λ w. ltb w p) (words_in part)

    pub length_tests : length tests ≡ count
    length_tests = length-map (words_in part) (λ w. ltb w p) ∙ length-words

    pub test_at : (i : ℕ) (z : Bool) → i < count → get_or tests i z ≡ ltb (word_at bytes i) p
    test_at i z below =
        map_at (λ w. ltb w p) (words_in part) i 0 z (omega (arith, length-words)) ∙ ap (λ w. ltb w p) (word_of_part i below)
