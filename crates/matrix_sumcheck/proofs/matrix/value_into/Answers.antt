-- `matrix_sumcheck::matrix::value_into` meets its contract: the ratio's constant times |K_M|, and the ratio without it. Assumes nothing.
use mathlib.Core.Path.{◌≡◌, sym, ap, ◌∙◌}
use mathlib.Core.List.{List, tail}
use Prim.Native.Nat.{ℕ, ◌+◌, ◌≤◌}
use native.Mathlib.Omega.{arith}
use lib.ListN.{length, take, drop, get_or, get_or-append}
use Rattle.field.specs.Element.{of, ◌⊗◌}
use Rattle.domain.proofs.SizeLaws.{size_fits}
use Rattle.poly.proofs.LentParts.{array, returned, lent_length, back_holds, back_length, back_is}
use Rattle.matrix_sumcheck.proofs.MatrixTerms.{remainder_made, value_made}
use Rattle.matrix_sumcheck.proofs.matrix.value_into.Goals as goal
use Rattle.matrix_sumcheck.proofs.matrix.value_into.Goals.{After-ratio_into, Start}

-- |K_M| words fit into an array
fits : (s : Start) → length s.args.out.now + 1 ≤ 1024
fits s = size_fits _ s.requires.out_len

abbrev made : After-ratio_into → List ℕ
made c = c.ratio_into.new.out

-- the ratio as it is lent the second time
made_length :
    (c : After-ratio_into)
    → let n : ℕ = length c.args.out.now + 1 in n ≡ length (take n (returned 1024 n (made c)))
made_length c = back_length 1024 (fits (goal.at.After-ratio_into c).Start) (made c) c.ratio_into.auto.out

-- its first word
made_first : (c : After-ratio_into) → get_or (returned 1024 (length c.args.out.now + 1) (made c)) 0 0 ≡ get_or (made c) 0 0
made_first c =
    get_or-append (made c) (drop (length c.args.out.now + 1) (array 1024)) 0 0
    (omega (arith, lent_length 1024 (fits (goal.at.After-ratio_into c).Start), c.ratio_into.auto.out))

pub slice_bounds-ratio-end : goal.slice_bounds-ratio-end
slice_bounds-ratio-end c = fits (goal.at.slice_bounds-ratio-end c).Start

pub slice_bounds-ratio_into-end : goal.slice_bounds-ratio_into-end
slice_bounds-ratio_into-end c = lent_length 1024 (fits (goal.at.slice_bounds-ratio_into-end c).Start)

pub ratio_into-requires : goal.ratio_into-requires
ratio_into-requires c =
    let s = (goal.at.ratio_into-requires c).Start in
    record {
      lt_p = s.requires.lt_p;
      entries_within = s.requires.entries_within;
      out_len = sym (lent_length 1024 (fits s)) ∙ s.requires.out_len;
    }

pub slice_bounds-ratio-end-2 : goal.slice_bounds-ratio-end-2
slice_bounds-ratio-end-2 c =
    let t = (goal.at.slice_bounds-ratio-end-2 c).After-ratio_into in
    back_holds 1024 (fits (goal.at.After-ratio_into t).Start) (made t) t.ratio_into.auto.out

pub slice_bounds-copy_tail-end : goal.slice_bounds-copy_tail-end
slice_bounds-copy_tail-end c = made_length (goal.at.slice_bounds-copy_tail-end c).After-ratio_into

pub copy_tail-requires : goal.copy_tail-requires
copy_tail-requires c = sym (made_length (goal.at.copy_tail-requires c).After-ratio_into)

pub returns : goal.returns
returns c q k M m n alpha beta G H L =
    let t = (goal.at.returns c).After-ratio_into in
    let s = (goal.at.After-ratio_into t).Start in
    let ratio = t.ratio_into.ensures q k M m n alpha beta G H L in
    record {
      is-remainder =
          c.copy_tail.ensures ∙ ap tail (back_is 1024 (fits s) (made t) t.ratio_into.auto.out ∙ ratio)
          ∙ remainder_made k M (of alpha) (of beta);
      is-value =
          c.multiply.ensures q G.known.value
          ∙ ap (λ (w : ℕ). (of {q = q} (length s.args.out.now + 1) ⊗ of w).word)
          (made_first t ∙ ap (λ (l : List ℕ). get_or l 0 0) ratio)
          ∙ value_made G H s.requires.out_len;
    }
