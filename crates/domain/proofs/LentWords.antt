-- The first n entries of an array, lent to a call that fills them and lent again: e is what the call left there, d the array before.
-- Assumes nothing.
use mathlib.Core.Path.{◌≡◌, sym, ap, ◌∙◌}
use mathlib.Core.List.{List, ◌++◌}
use Prim.Native.Nat.{ℕ, ◌≤◌}
use native.Mathlib.Omega.{arith}
use lib.ListN.{length, take, drop}
use lib.Seq.{length-take-le, length_front, take_at}

module _ (n : ℕ) (d : List ℕ) (within : n ≤ length d) where
  pub part_length : n ≡ length (take n d)
  part_length = sym (length-take-le n d within)

  module _ (e : List ℕ) (kept : length e ≡ length (take n d)) where
    pub filled_within : n ≤ length (e ++ drop n d)
    filled_within = omega (arith, length_front d e n kept)

    pub filled_part : take n (e ++ drop n d) ≡ e
    filled_part = take_at e (drop n d) n (kept ∙ sym part_length)

    pub filled_length : n ≡ length (take n (e ++ drop n d))
    filled_length = part_length ∙ sym kept ∙ ap length (sym filled_part)
