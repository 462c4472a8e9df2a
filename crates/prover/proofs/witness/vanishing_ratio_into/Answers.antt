-- `prover::witness::vanishing_ratio_into` meets its contract. Assumes nothing.
use mathlib.Core.Path.{◌≡◌, ap, ◌∙◌}
use Prim.Native.Nat.{ℕ, ◌+◌, ◌-◌, ◌≤◌, ◌<◌}
use native.Mathlib.Omega.{arith}
use lib.ListN.{length}
use Rattle.field.specs.Element.{words}
use Rattle.domain.specs.Polynomial.{Poly, quotient, vanishing_poly}
use Rattle.domain.proofs.SizeLaws.{size_positive, size_bound}
use Rattle.poly.proofs.LentParts.{part_length, filled_within, filled_length, above_one, one_less, of_filled}
use Rattle.prover.proofs.witness.vanishing_ratio_into.Goals as goal
use Rattle.prover.proofs.witness.vanishing_ratio_into.Goals.{Start}

bound : (c : Start) → c.args.c + 1 ≤ 1025
bound c = omega (arith, size_bound c.args.c c.requires.c_value.0)

positive : (c : Start) → 0 < c.args.c
positive c = size_positive c.args.c c.requires.c_value.0

pub slice_bounds-vanishing-end : goal.slice_bounds-vanishing-end
slice_bounds-vanishing-end c = bound (goal.at.slice_bounds-vanishing-end c).Start

pub slice_bounds-fill_vanishing-end : goal.slice_bounds-fill_vanishing-end
slice_bounds-fill_vanishing-end c = part_length _ _ (bound (goal.at.slice_bounds-fill_vanishing-end c).Start)

pub fill_vanishing-requires : goal.fill_vanishing-requires
fill_vanishing-requires c =
    let s = (goal.at.fill_vanishing-requires c).Start in
    record {
      p_nonzero = omega arith;
      in_bounds = above_one s.args.c (part_length _ _ (bound s)) (positive s);
    }

pub slice_bounds-vanishing-end-2 : goal.slice_bounds-vanishing-end-2
slice_bounds-vanishing-end-2 c =
    filled_within _ _ (bound (goal.at.slice_bounds-vanishing-end-2 c).Start) c.fill_vanishing.new.out c.fill_vanishing.auto.out

pub slice_bounds-quotient_into-end : goal.slice_bounds-quotient_into-end
slice_bounds-quotient_into-end c =
    filled_length _ _ (bound (goal.at.slice_bounds-quotient_into-end c).Start) c.fill_vanishing.new.out c.fill_vanishing.auto.out

pub quotient_into-requires : goal.quotient_into-requires
quotient_into-requires c =
    let s = (goal.at.quotient_into-requires c).Start in
    let x : ℕ = s.args.x in
    let length-out : length s.args.out.now ≡ s.args.c + 1 - x = omega arith in
    let whole = filled_length _ _ (bound s) c.fill_vanishing.new.out c.fill_vanishing.auto.out in
    record {
      p_nonzero = omega arith;
      n_nonzero = size_positive _ s.requires.c_value.1;
      out_len = length-out ∙ ap (λ (n : ℕ). n - x) whole;
    }

pub returns : goal.returns
returns c q e =
    let s = (goal.at.returns c).Start in
    let fill = c.fill_vanishing in
    let n : ℕ = s.args.c in
    c.quotient_into.ensures q e
    ∙ ap (λ (l : Poly q). words (quotient s.args.x l))
    (of_filled _ _ (bound s) fill.new.out fill.auto.out (vanishing_poly n)
    (fill.ensures q e ∙ ap (λ (k : ℕ). words (vanishing_poly {q = q} k)) (one_less n (part_length _ _ (bound s)))))
