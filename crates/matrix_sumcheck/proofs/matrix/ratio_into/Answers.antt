-- `matrix_sumcheck::matrix::ratio_into` meets its contract: the terms of the entries, interpolated. Assumes nothing.
use mathlib.Core.Path.{◌≡◌, sym, ap, ap₂, ◌∙◌}
use mathlib.Core.List.{List, map}
use Prim.Native.Nat.{ℕ, ◌≤◌}
use native.Mathlib.Omega.{arith}
use lib.ListN.{length, take}
use Rattle.field.specs.Prime.{Prime}
use Rattle.field.specs.Element.{Elem, of, words}
use Rattle.domain.specs.Size.{is_size}
use Rattle.domain.specs.Domain.{root}
use Rattle.domain.specs.Polynomial.{interpolate}
use Rattle.domain.proofs.SizeLaws.{size_is, size_fits}
use Rattle.poly.proofs.LentParts.{returned, lent_length, back_holds, back_length, back_list}
use Rattle.matrix_sumcheck.specs.MatrixGiven.{terms, padded}
use Rattle.matrix_sumcheck.proofs.MatrixTerms.{ratio_by_terms}
use Rattle.matrix_sumcheck.proofs.matrix.ratio_into.Goals as goal
use Rattle.matrix_sumcheck.proofs.matrix.ratio_into.Goals.{After-terms_into, Start}

-- the interpolation of a list of words read back
interpolated : (q : Prime) (l : List ℕ) (t : List (Elem q)) {n g : ℕ} {out : List ℕ}
    → n ≡ length l → map of l ≡ t → g ≡ (root {q = q} n).word
    → (g ≡ (root {q = q} (length l)).word → out ≡ words (interpolate (length l) (map (of {q = q}) l)))
    → out ≡ words (interpolate n t)
interpolated q l t long read at-root call =
    call (at-root ∙ ap (λ (k : ℕ). (root {q = q} k).word) long)
    ∙ ap₂ (λ (k : ℕ) (f : List (Elem q)). words (interpolate k f)) (sym long) read

-- the slice fits into an array
fits : (s : Start) → length s.args.out.now ≤ 1024
fits s = size_fits _ s.requires.out_len

abbrev made : After-terms_into → List ℕ
made c = c.terms_into.new.out

-- the terms as they are lent the second time
made_length : (c : After-terms_into) → let n : ℕ = length c.args.out.now in n ≡ length (take n (returned 1024 n (made c)))
made_length c = back_length 1024 (fits (goal.at.After-terms_into c).Start) (made c) c.terms_into.auto.out

pub slice_bounds-values-end : goal.slice_bounds-values-end
slice_bounds-values-end c = fits (goal.at.slice_bounds-values-end c).Start

pub slice_bounds-terms_into-end : goal.slice_bounds-terms_into-end
slice_bounds-terms_into-end c = lent_length 1024 (fits (goal.at.slice_bounds-terms_into-end c).Start)

pub terms_into-requires : goal.terms_into-requires
terms_into-requires c =
    let s = (goal.at.terms_into-requires c).Start in
    record {
      p_nonzero = omega (arith, s.requires.lt_p);
      entries_within = s.requires.entries_within;
      out_len = sym (lent_length 1024 (fits s)) ∙ s.requires.out_len;
    }

pub overflow_cast-n : goal.overflow_cast-n
overflow_cast-n c = omega (arith, fits (goal.at.overflow_cast-n c).Start)

pub root_of-root-requires : goal.root_of-root-requires
root_of-root-requires c = size_is _ c.requires.out_len

pub slice_bounds-values-end-2 : goal.slice_bounds-values-end-2
slice_bounds-values-end-2 c =
    let t = (goal.at.slice_bounds-values-end-2 c).After-terms_into in
    back_holds 1024 (fits (goal.at.After-terms_into t).Start) (made t) t.terms_into.auto.out

pub slice_bounds-interpolate_into-end : goal.slice_bounds-interpolate_into-end
slice_bounds-interpolate_into-end c = made_length (goal.at.slice_bounds-interpolate_into-end c).After-terms_into

pub interpolate_into-requires : goal.interpolate_into-requires
interpolate_into-requires c =
    let t = (goal.at.interpolate_into-requires c).After-terms_into in
    record {
      lt_p = t.requires.lt_p;
      out_len = (made_length t, ap is_size (sym (made_length t)) ∙ size_is _ t.requires.out_len);
    }

pub returns : goal.returns
returns c q k M m n alpha beta G H L =
    let t = (goal.at.returns c).After-terms_into in
    let s = (goal.at.After-terms_into t).Start in
    let a = s.args in
    let l : ℕ = length a.out.now in
    let target : List (Elem q) = padded l (terms m n (of alpha) (of beta) a.entries.now) in
    let filled =
    t.terms_into.ensures q G.known.value m n alpha beta L
    ∙ ap (λ (j : ℕ). words (padded {q = q} j (terms m n (of alpha) (of beta) a.entries.now))) (sym (lent_length 1024 (fits s))) in
    interpolated q (take l (returned 1024 l (made t))) target (made_length t)
    (back_list 1024 (fits s) (made t) t.terms_into.auto.out target filled)
    (c.root_of-root.ensures q G.known) (c.interpolate_into.ensures q G.qualifies G.known.value)
    ∙ ap words (ratio_by_terms G H l s.requires.out_len)
