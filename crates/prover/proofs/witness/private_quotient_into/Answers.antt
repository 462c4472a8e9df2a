-- `prover::witness::private_quotient_into` meets its contract. Assumes nothing.
use mathlib.Core.Path.{◌≡◌, sym, ap, ◌∙◌}
use mathlib.Core.List.{map}
use Prim.Native.Nat.{ℕ, ◌-◌, ◌≤◌}
use native.Mathlib.Omega.{arith}
use lib.ListN.{length}
use Rattle.field.specs.Element.{of, words}
use Rattle.domain.specs.Size.{is_size}
use Rattle.domain.specs.Domain.{root}
use Rattle.domain.specs.Polynomial.{Poly, quotient, interpolate}
use Rattle.domain.proofs.Qualification.{known-qualifies}
use Rattle.domain.proofs.SizeLaws.{size_positive, size_bound}
use Rattle.poly.proofs.LentParts.{part_length, filled_within, filled_length, of_filled}
use Rattle.prover.proofs.witness.private_quotient_into.Goals as goal
use Rattle.prover.proofs.witness.private_quotient_into.Goals.{Start}

bound : (c : Start) → c.args.c ≤ 1024
bound c = size_bound c.args.c c.requires.c_value.0

pub slice_bounds-whole-end : goal.slice_bounds-whole-end
slice_bounds-whole-end c = bound (goal.at.slice_bounds-whole-end c).Start

pub slice_bounds-interpolate_into-end : goal.slice_bounds-interpolate_into-end
slice_bounds-interpolate_into-end c = part_length _ _ (bound (goal.at.slice_bounds-interpolate_into-end c).Start)

pub interpolate_into-requires : goal.interpolate_into-requires
interpolate_into-requires c =
    let s = (goal.at.interpolate_into-requires c).Start in
    let size : length s.args.z.now ≡ s.args.c = s.requires.z_len.0 in
    record {
      lt_p = s.requires.lt_p;
      out_len = (sym (size ∙ part_length _ _ (bound s)), ap is_size size ∙ s.requires.c_value.0);
    }

pub slice_bounds-whole-end-2 : goal.slice_bounds-whole-end-2
slice_bounds-whole-end-2 c =
    filled_within _ _ (bound (goal.at.slice_bounds-whole-end-2 c).Start) c.interpolate_into.new.out c.interpolate_into.auto.out

pub slice_bounds-quotient_into-end : goal.slice_bounds-quotient_into-end
slice_bounds-quotient_into-end c =
    filled_length _ _ (bound (goal.at.slice_bounds-quotient_into-end c).Start) c.interpolate_into.new.out c.interpolate_into.auto.out

pub quotient_into-requires : goal.quotient_into-requires
quotient_into-requires c =
    let s = (goal.at.quotient_into-requires c).Start in
    let size = filled_length _ _ (bound s) c.interpolate_into.new.out c.interpolate_into.auto.out in
    record {
      p_nonzero = omega arith;
      n_nonzero = size_positive _ s.requires.c_value.1;
      out_len = s.requires.z_len.1 ∙ ap (λ (n : ℕ). n - s.args.x) size;
    }

pub returns : goal.returns
returns c q known =
    let s = (goal.at.returns c).Start in
    let values = c.interpolate_into in
    let z : Poly q = map of s.args.z.now in
    let size : length s.args.z.now ≡ s.args.c = s.requires.z_len.0 in
    c.quotient_into.ensures q known.value
    ∙ ap (λ (l : Poly q). words (quotient s.args.x l))
    (of_filled _ _ (bound s) values.new.out values.auto.out (interpolate s.args.c z)
    (values.ensures q (known-qualifies known) known.value
    (c.root_of.ensures q known ∙ ap (λ (n : ℕ). (root {q = q} n).word) (sym size))
    ∙ ap (λ (n : ℕ). words (interpolate {q = q} n z)) size))
