-- `prover::rows::row_quotient_into` meets its contract. Assumes nothing.
use mathlib.Core.Path.{◌≡◌, sym, ap, ◌∙◌}
use mathlib.Core.List.{List, map}
use Prim.Native.Nat.{ℕ, ◌+◌}
use native.Mathlib.Omega.{arith}
use lib.ListN.{length}
use Rattle.algebra.specs.Lists.{tabulate}
use Rattle.field.specs.Element.{Elem, of, words}
use Rattle.domain.specs.Size.{is_size}
use Rattle.domain.proofs.SizeLaws.{size_positive, size_bound}
use Rattle.protocol.specs.Three.{A, B}
use Rattle.protocol.specs.Circuit.{row_sum}
use Rattle.protocol.specs.Calls.{entries_of}
use Rattle.poly.proofs.LentParts.{part_length, filled_within, filled_length, of_filled, lent_length}
use Rattle.prover.proofs.ProductLaws.{quotient_made}
use Rattle.prover.proofs.RowLaws.{known_formed, rows-within, row-quotient_made}
use Rattle.prover.proofs.rows.row_quotient_into.Goals as goal

pub slice_bounds-left-end : goal.slice_bounds-left-end
slice_bounds-left-end c = size_bound _ c.requires.r_value

pub slice_bounds-row_sums-end : goal.slice_bounds-row_sums-end
slice_bounds-row_sums-end c = part_length _ _ (size_bound _ c.requires.r_value)

pub row_sums-requires : goal.row_sums-requires
row_sums-requires c =
    record {
      p_nonzero = omega arith;
      all =
          rows-within (lent_length 1024 (size_bound _ c.requires.r_value)) (length c.args.input.now.z.now)
          (entries_of c.args.input.now.circuit.matrices.a.now) c.requires.all.0;
    }

pub slice_bounds-right-end : goal.slice_bounds-right-end
slice_bounds-right-end c = size_bound _ c.requires.r_value

pub slice_bounds-row_sums-end-2 : goal.slice_bounds-row_sums-end-2
slice_bounds-row_sums-end-2 c = part_length _ _ (size_bound _ c.requires.r_value)

pub row_sums-requires-2 : goal.row_sums-requires-2
row_sums-requires-2 c =
    record {
      p_nonzero = omega arith;
      all =
          rows-within (lent_length 1024 (size_bound _ c.requires.r_value)) (length c.args.input.now.z.now)
          (entries_of c.args.input.now.circuit.matrices.b.now) c.requires.all.1;
    }

pub slice_bounds-left-end-2 : goal.slice_bounds-left-end-2
slice_bounds-left-end-2 c =
    filled_within _ _ (size_bound _ c.requires.r_value) c.row_sums.new.out c.row_sums.auto.out

pub slice_bounds-divide_product_into-end : goal.slice_bounds-divide_product_into-end
slice_bounds-divide_product_into-end c =
    filled_length _ _ (size_bound _ c.requires.r_value) c.row_sums.new.out c.row_sums.auto.out

pub slice_bounds-right-end-2 : goal.slice_bounds-right-end-2
slice_bounds-right-end-2 c =
    filled_within _ _ (size_bound _ c.requires.r_value) c.row_sums-2.new.out c.row_sums-2.auto.out

pub slice_bounds-divide_product_into-end-2 : goal.slice_bounds-divide_product_into-end-2
slice_bounds-divide_product_into-end-2 c =
    filled_length _ _ (size_bound _ c.requires.r_value) c.row_sums-2.new.out c.row_sums-2.auto.out

pub slice_bounds-factor-end : goal.slice_bounds-factor-end
slice_bounds-factor-end c = size_bound _ c.requires.r_value

pub slice_bounds-divide_product_into-end-3 : goal.slice_bounds-divide_product_into-end-3
slice_bounds-divide_product_into-end-3 c = part_length _ _ (size_bound _ c.requires.r_value)

pub slice_bounds-rest-end : goal.slice_bounds-rest-end
slice_bounds-rest-end c = size_bound _ c.requires.r_value

pub slice_bounds-divide_product_into-end-4 : goal.slice_bounds-divide_product_into-end-4
slice_bounds-divide_product_into-end-4 c = part_length _ _ (size_bound _ c.requires.r_value)

pub divide_product_into-requires : goal.divide_product_into-requires
divide_product_into-requires c =
    let left = filled_length _ _ (size_bound _ c.requires.r_value) c.row_sums.new.out c.row_sums.auto.out in
    let right = filled_length _ _ (size_bound _ c.requires.r_value) c.row_sums-2.new.out c.row_sums-2.auto.out in
    let lent = sym (part_length _ _ (size_bound _ c.requires.r_value)) ∙ left in
    let whole : length c.args.out.now + 1 ≡ c.args.input.now.circuit.r =
    omega (arith, size_positive c.args.input.now.circuit.r c.requires.r_value) in
    record {
      modulus = c.requires.modulus;
      left_value = ap is_size (sym left) ∙ c.requires.r_value;
      right_len = (sym right ∙ left, lent);
      rest_len = (lent, whole ∙ left);
    }

pub returns : goal.returns
returns c q known Q k W eR ea eb ẑ values =
    let r : ℕ = c.args.input.now.circuit.r in
    let z : List (Elem q) = map of c.args.input.now.z.now in
    let whole = part_length _ _ (size_bound _ c.requires.r_value) in
    quotient_made (c.divide_product_into.ensures q known)
    (sym (filled_length _ _ (size_bound _ c.requires.r_value) c.row_sums.new.out c.row_sums.auto.out))
    (of_filled _ _ (size_bound _ c.requires.r_value) c.row_sums.new.out c.row_sums.auto.out (tabulate r (row_sum k A z))
    (c.row_sums.ensures q known.value k A ea ∙ ap (λ (n : ℕ). words (tabulate n (row_sum k A z))) (sym whole)))
    (of_filled _ _ (size_bound _ c.requires.r_value) c.row_sums-2.new.out c.row_sums-2.auto.out (tabulate r (row_sum k B z))
    (c.row_sums-2.ensures q known.value k B eb ∙ ap (λ (n : ℕ). words (tabulate n (row_sum k B z))) (sym whole)))
    ∙ ap words (row-quotient_made q Q k (known_formed known W) eR ẑ z values)
