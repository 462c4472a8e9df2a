-- The text that is written stands within the buffer.
use Rattle.std.proofs.Common.{◌≡◌, ℕ, ◌+◌, ◌≤◌, length, List, ◌++◌, take, drop, ap, sym, length-append, length-take-le, arith}
use Rattle.text.specs.Buffer.{put}
use Rattle.prove.proofs.main.Goals as goal

-- a buffer with a text in it is as long as the text
text_within : (b t d : List ℕ) (n : ℕ) → n ≡ length t → d ≡ put b 0 t → n ≤ length d
unfolding put
text_within b t d n same e =
    omega (
      arith,
      ap length e,
      length-append (take 0 b) (t ++ drop (0 + length t) b),
      length-append t (drop (0 + length t) b),
    )

pub slice_bounds-out-end : goal.slice_bounds-out-end
slice_bounds-out-end c = text_within _ _ _ _ c.text-k.ensures.value c.text-k.ensures.out_after

pub slice_bounds-write_all-end : goal.slice_bounds-write_all-end
slice_bounds-write_all-end c =
    let e = c.text-k.ensures in
    sym (length-take-le _ _ (text_within _ _ _ _ e.value e.out_after))
