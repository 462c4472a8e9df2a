-- `prover::witness::witness_into` meets its contract. Assumes nothing.
use mathlib.Core.Path.{sym, ◌∙◌}
use mathlib.Core.List.{map}
use Prim.Native.Nat.{ℕ, ◌+◌, ◌-◌, ◌≤◌}
use native.Mathlib.Omega.{arith}
use lib.ListN.{length}
use Rattle.field.specs.Element.{of}
use Rattle.domain.specs.Polynomial.{quotient, vanishing_poly}
use Rattle.domain.proofs.SizeLaws.{size_positive, size_bound}
use Rattle.domain.proofs.Division.{length_vanishing_ratio}
use Rattle.poly.proofs.LentParts.{part_length, filled_within, filled_length, of_filled}
use Rattle.prover.proofs.WitnessLaws.{padded, witness_made}
use Rattle.prover.proofs.witness.witness_into.Goals as goal
use Rattle.prover.proofs.witness.witness_into.Goals.{Start}

short : (c : Start) → c.args.input.now.circuit.c - c.args.input.now.circuit.x ≤ length c.args.out.now
short c = omega arith

bound : (c : Start) → c.args.input.now.circuit.c - c.args.input.now.circuit.x + 1 ≤ 1024
bound c =
    let sizes = c.requires.c_value in
    omega (arith, size_bound _ sizes.0, size_positive _ sizes.1, sizes.2)

pub slice_bounds-ratio-end : goal.slice_bounds-ratio-end
slice_bounds-ratio-end c = bound (goal.at.slice_bounds-ratio-end c).Start

pub slice_bounds-vanishing_ratio_into-end : goal.slice_bounds-vanishing_ratio_into-end
slice_bounds-vanishing_ratio_into-end c = part_length _ _ (bound (goal.at.slice_bounds-vanishing_ratio_into-end c).Start)

pub vanishing_ratio_into-requires : goal.vanishing_ratio_into-requires
vanishing_ratio_into-requires c =
    let s = (goal.at.vanishing_ratio_into-requires c).Start in
    record {
      lt_p = s.requires.lt_p;
      c_value = s.requires.c_value;
      out_len = sym (part_length _ _ (bound s));
    }

pub slice_bounds-ratio-end-2 : goal.slice_bounds-ratio-end-2
slice_bounds-ratio-end-2 c =
    let ratio = c.vanishing_ratio_into in
    filled_within _ _ (bound (goal.at.slice_bounds-ratio-end-2 c).Start) ratio.new.out ratio.auto.out

pub slice_bounds-add_scaled-end : goal.slice_bounds-add_scaled-end
slice_bounds-add_scaled-end c =
    let ratio = c.vanishing_ratio_into in
    filled_length _ _ (bound (goal.at.slice_bounds-add_scaled-end c).Start) ratio.new.out ratio.auto.out

pub returns : goal.returns
returns c q known circuit eC eX =
    let s = (goal.at.returns c).Start in
    let a = s.args in
    let i = a.input.now in
    let k = i.circuit in
    let first = c.private_quotient_into in
    let ratio = c.vanishing_ratio_into in
    let n : ℕ = k.c - k.x in
    let sizes = s.requires.c_value in
    let part = part_length n a.out.now (short s) in
    c.add_scaled.ensures q known.value
    ∙ witness_made q circuit (map of i.z.now) (of i.mask) eC eX sizes.2
    (padded n a.out.now first.new.out s.requires.z_len.1 (first.auto.out ∙ sym part))
    (first.ensures q known)
    (of_filled _ _ (bound s) ratio.new.out ratio.auto.out (quotient k.x (vanishing_poly k.c)) (ratio.ensures q known.value))
    (omega (arith, first.auto.out, part, length_vanishing_ratio q k.x k.c sizes.1 sizes.0 sizes.2))
