-- `transform::evaluate_into` meets its contract. Assumes nothing.
use mathlib.Core.Path.{sym, ◌∙◌}
use native.Mathlib.Omega.{arith}
use lib.ListN.{length}
use Rattle.domain.proofs.SizeLaws.{size_bound}
use Rattle.poly.proofs.LentParts.{lent_length, back_holds, back_length}
use Rattle.transform.proofs.TableLaws.{values-lent}
use Rattle.transform.proofs.evaluate_into.Goals as goal

pub slice_bounds-powers-end : goal.slice_bounds-powers-end
slice_bounds-powers-end c = size_bound (length c.args.f.now) c.requires.out_len.1

pub slice_bounds-fill_tables-end : goal.slice_bounds-fill_tables-end
slice_bounds-fill_tables-end c = lent_length 1024 (size_bound (length c.args.f.now) c.requires.out_len.1)

pub slice_bounds-quotients-end : goal.slice_bounds-quotients-end
slice_bounds-quotients-end c = size_bound (length c.args.f.now) c.requires.out_len.1

pub slice_bounds-fill_tables-end-2 : goal.slice_bounds-fill_tables-end-2
slice_bounds-fill_tables-end-2 c = lent_length 1024 (size_bound (length c.args.f.now) c.requires.out_len.1)

pub fill_tables-requires : goal.fill_tables-requires
fill_tables-requires c =
    let part = lent_length 1024 (size_bound (length c.args.f.now) c.requires.out_len.1) in
    record {
      lt_p = c.requires.lt_p;
      quotients_len = sym part ∙ part;
    }

pub slice_bounds-powers-end-2 : goal.slice_bounds-powers-end-2
slice_bounds-powers-end-2 c =
    back_holds 1024 (size_bound (length c.args.f.now) c.requires.out_len.1) c.fill_tables.new.powers c.fill_tables.auto.powers

pub slice_bounds-evaluate_with-end : goal.slice_bounds-evaluate_with-end
slice_bounds-evaluate_with-end c =
    back_length 1024 (size_bound (length c.args.f.now) c.requires.out_len.1) c.fill_tables.new.powers c.fill_tables.auto.powers

pub slice_bounds-quotients-end-2 : goal.slice_bounds-quotients-end-2
slice_bounds-quotients-end-2 c =
    back_holds 1024 (size_bound (length c.args.f.now) c.requires.out_len.1) c.fill_tables.new.quotients c.fill_tables.auto.quotients

pub slice_bounds-evaluate_with-end-2 : goal.slice_bounds-evaluate_with-end-2
slice_bounds-evaluate_with-end-2 c =
    back_length 1024 (size_bound (length c.args.f.now) c.requires.out_len.1) c.fill_tables.new.quotients c.fill_tables.auto.quotients

pub evaluate_with-requires : goal.evaluate_with-requires
evaluate_with-requires c =
    let call = c.fill_tables in
    let fits = size_bound (length c.args.f.now) c.requires.out_len.1 in
    let powers-length = back_length 1024 fits call.new.powers call.auto.powers in
    let quotients-length = back_length 1024 fits call.new.quotients call.auto.quotients in
    record {
      lt_p = c.requires.lt_p;
      out_len = c.requires.out_len;
      f_in_bounds = (omega (arith, powers-length), omega (arith, quotients-length));
    }

pub returns : goal.returns
returns c q Q e root-word =
    let call = c.fill_tables in
    let fits = size_bound (length c.args.f.now) c.requires.out_len.1 in
    c.evaluate_with.ensures q Q e
    (values-lent q 1024 fits call.new.powers call.new.quotients call.auto.powers call.auto.quotients c.args.g
    root-word (call.ensures q e))
