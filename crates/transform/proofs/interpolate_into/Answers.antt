-- `transform::interpolate_into` meets its contract. Assumes nothing.
use mathlib.Core.Path.{sym, ap, ◌∙◌}
use Prim.Native.Nat.{ℕ}
use native.Mathlib.Omega.{arith}
use lib.ListN.{length}
use Rattle.domain.specs.Size.{is_size}
use Rattle.domain.specs.Domain.{root}
use Rattle.domain.proofs.SizeLaws.{size_bound}
use Rattle.poly.proofs.LentParts.{lent_length, back_holds, back_length}
use Rattle.transform.proofs.TableLaws.{coefficients_lent}
use Rattle.transform.proofs.interpolate_into.Goals as goal

pub slice_bounds-powers-end : goal.slice_bounds-powers-end
slice_bounds-powers-end c = size_bound (length c.args.values.now) c.requires.out_len.1

pub slice_bounds-fill_inverse_tables-end : goal.slice_bounds-fill_inverse_tables-end
slice_bounds-fill_inverse_tables-end c = lent_length 1024 (size_bound (length c.args.values.now) c.requires.out_len.1)

pub slice_bounds-quotients-end : goal.slice_bounds-quotients-end
slice_bounds-quotients-end c = size_bound (length c.args.values.now) c.requires.out_len.1

pub slice_bounds-fill_inverse_tables-end-2 : goal.slice_bounds-fill_inverse_tables-end-2
slice_bounds-fill_inverse_tables-end-2 c = lent_length 1024 (size_bound (length c.args.values.now) c.requires.out_len.1)

pub fill_inverse_tables-requires : goal.fill_inverse_tables-requires
fill_inverse_tables-requires c =
    let part = lent_length 1024 (size_bound (length c.args.values.now) c.requires.out_len.1) in
    record {
      lt_p = c.requires.lt_p;
      quotients_len = (sym part ∙ part, ap is_size (sym part) ∙ c.requires.out_len.1);
    }

pub slice_bounds-powers-end-2 : goal.slice_bounds-powers-end-2
slice_bounds-powers-end-2 c =
    let call = c.fill_inverse_tables in
    back_holds 1024 (size_bound (length c.args.values.now) c.requires.out_len.1) call.new.powers call.auto.powers

pub slice_bounds-interpolate_with-end : goal.slice_bounds-interpolate_with-end
slice_bounds-interpolate_with-end c =
    let call = c.fill_inverse_tables in
    back_length 1024 (size_bound (length c.args.values.now) c.requires.out_len.1) call.new.powers call.auto.powers

pub slice_bounds-quotients-end-2 : goal.slice_bounds-quotients-end-2
slice_bounds-quotients-end-2 c =
    let call = c.fill_inverse_tables in
    back_holds 1024 (size_bound (length c.args.values.now) c.requires.out_len.1) call.new.quotients call.auto.quotients

pub slice_bounds-interpolate_with-end-2 : goal.slice_bounds-interpolate_with-end-2
slice_bounds-interpolate_with-end-2 c =
    let call = c.fill_inverse_tables in
    back_length 1024 (size_bound (length c.args.values.now) c.requires.out_len.1) call.new.quotients call.auto.quotients

pub interpolate_with-requires : goal.interpolate_with-requires
interpolate_with-requires c =
    let call = c.fill_inverse_tables in
    let fits = size_bound (length c.args.values.now) c.requires.out_len.1 in
    let powers-length = back_length 1024 fits call.new.powers call.auto.powers in
    let quotients-length = back_length 1024 fits call.new.quotients call.auto.quotients in
    record {
      lt_p = c.requires.lt_p;
      out_len = c.requires.out_len;
      values_in_bounds = (omega (arith, powers-length), omega (arith, quotients-length));
    }

pub returns : goal.returns
returns c q Q e root-word =
    let call = c.fill_inverse_tables in
    let fits = size_bound (length c.args.values.now) c.requires.out_len.1 in
    c.interpolate_with.ensures q Q e
    (coefficients_lent q 1024 fits call.new.powers call.new.quotients call.auto.powers call.auto.quotients
    (call.ensures q e (root-word ∙ ap (λ (m : ℕ). (root {q = q} m).word) (lent_length 1024 fits))))
