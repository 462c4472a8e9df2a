-- `transform::product::divide_product_into` meets its contract. Assumes nothing.
use mathlib.Core.Path.{sym, ap, ◌∙◌}
use Prim.Native.Nat.{ℕ}
use native.Mathlib.Omega.{arith}
use lib.ListN.{length}
use Rattle.domain.specs.Size.{is_size}
use Rattle.domain.specs.Domain.{root}
use Rattle.domain.proofs.SizeLaws.{size_bound}
use Rattle.poly.proofs.LentParts.{lent_length, back_holds, back_length}
use Rattle.transform.proofs.TableLaws.{coefficients_lent}
use Rattle.transform.proofs.product.divide_product_into.Goals as goal

pub overflow_cast-n : goal.overflow_cast-n
overflow_cast-n c = omega (arith, size_bound (length c.args.left.now) c.requires.left_value)

pub slice_bounds-powers-end : goal.slice_bounds-powers-end
slice_bounds-powers-end c = size_bound (length c.args.left.now) c.requires.left_value

pub slice_bounds-fill_inverse_tables-end : goal.slice_bounds-fill_inverse_tables-end
slice_bounds-fill_inverse_tables-end c = lent_length 1024 (size_bound (length c.args.left.now) c.requires.left_value)

pub slice_bounds-quotients-end : goal.slice_bounds-quotients-end
slice_bounds-quotients-end c = size_bound (length c.args.left.now) c.requires.left_value

pub slice_bounds-fill_inverse_tables-end-2 : goal.slice_bounds-fill_inverse_tables-end-2
slice_bounds-fill_inverse_tables-end-2 c = lent_length 1024 (size_bound (length c.args.left.now) c.requires.left_value)

pub fill_inverse_tables-requires : goal.fill_inverse_tables-requires
fill_inverse_tables-requires c =
    let part = lent_length 1024 (size_bound (length c.args.left.now) c.requires.left_value) in
    record {
      lt_p = c.requires.modulus.0;
      quotients_len = (sym part ∙ part, ap is_size (sym part) ∙ c.requires.left_value);
    }

pub slice_bounds-powers-end-2 : goal.slice_bounds-powers-end-2
slice_bounds-powers-end-2 c =
    let call = c.fill_inverse_tables in
    back_holds 1024 (size_bound (length c.args.left.now) c.requires.left_value) call.new.powers call.auto.powers

pub slice_bounds-divide_with-end : goal.slice_bounds-divide_with-end
slice_bounds-divide_with-end c =
    let call = c.fill_inverse_tables in
    back_length 1024 (size_bound (length c.args.left.now) c.requires.left_value) call.new.powers call.auto.powers

pub slice_bounds-quotients-end-2 : goal.slice_bounds-quotients-end-2
slice_bounds-quotients-end-2 c =
    let call = c.fill_inverse_tables in
    back_holds 1024 (size_bound (length c.args.left.now) c.requires.left_value) call.new.quotients call.auto.quotients

pub slice_bounds-divide_with-end-2 : goal.slice_bounds-divide_with-end-2
slice_bounds-divide_with-end-2 c =
    let call = c.fill_inverse_tables in
    back_length 1024 (size_bound (length c.args.left.now) c.requires.left_value) call.new.quotients call.auto.quotients

pub divide_with-requires : goal.divide_with-requires
divide_with-requires c =
    let call = c.fill_inverse_tables in
    let fits = size_bound (length c.args.left.now) c.requires.left_value in
    let powers-length = back_length 1024 fits call.new.powers call.auto.powers in
    let quotients-length = back_length 1024 fits call.new.quotients call.auto.quotients in
    record {
      modulus = c.requires.modulus;
      left_value = c.requires.left_value;
      left_in_bounds = (omega (arith, powers-length), omega (arith, quotients-length));
      right_len = c.requires.right_len;
      rest_len = c.requires.rest_len;
    }

pub returns : goal.returns
returns c q known =
    let call = c.fill_inverse_tables in
    let fits = size_bound (length c.args.left.now) c.requires.left_value in
    let root-word = c.root_of-root.ensures q known in
    c.divide_with.ensures q known root-word
    (coefficients_lent q 1024 fits call.new.powers call.new.quotients call.auto.powers call.auto.quotients
    (call.ensures q known.value (root-word ∙ ap (λ (m : ℕ). (root {q = q} m).word) (lent_length 1024 fits))))
