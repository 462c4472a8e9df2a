-- `openings::rows::row_quotient_at` meets its contract. Assumes nothing.
use mathlib.Core.Path.{sym}
use mathlib.Core.List.{List, map}
use Prim.Native.Nat.{ℕ}
use native.Mathlib.Omega.{arith}
use lib.ListN.{length, take}
use Rattle.algebra.specs.Lists.{tabulate}
use Rattle.field.specs.Element.{Elem, of}
use Rattle.domain.specs.Polynomial.{eval}
use Rattle.domain.proofs.SizeLaws.{size_bound}
use Rattle.domain.proofs.Qualification.{known-qualifies}
use Rattle.protocol.specs.Three.{A, B}
use Rattle.protocol.specs.Circuit.{row_sum}
use Rattle.protocol.specs.Messages.{row_quotient}
use Rattle.protocol.specs.Calls.{entries_of}
use Rattle.poly.proofs.LentParts.{returned, lent_length}
use Rattle.prover.proofs.RowLaws.{known_formed, rows-within}
use Rattle.openings.proofs.OpeningLaws.{made_in, made_holds, made_length, made_list, made_by_length}
use Rattle.openings.proofs.WordValues.{row-quotient_made}
use Rattle.openings.proofs.rows.row_quotient_at.Goals as goal

abbrev part : ℕ → List ℕ → List ℕ
part n l = take n (returned 1024 n l)

pub slice_bounds-left-end : goal.slice_bounds-left-end
slice_bounds-left-end c = size_bound _ c.requires.r_value.0

pub slice_bounds-row_sums-end : goal.slice_bounds-row_sums-end
slice_bounds-row_sums-end c = lent_length 1024 (size_bound _ c.requires.r_value.0)

pub row_sums-requires : goal.row_sums-requires
row_sums-requires c =
    record {
      p_nonzero = omega arith;
      all =
          rows-within (lent_length 1024 (size_bound _ c.requires.r_value.0)) (length c.args.input.now.z.now)
          (entries_of c.args.input.now.circuit.matrices.a.now) c.requires.all.0;
    }

pub slice_bounds-right-end : goal.slice_bounds-right-end
slice_bounds-right-end c = size_bound _ c.requires.r_value.0

pub slice_bounds-row_sums-end-2 : goal.slice_bounds-row_sums-end-2
slice_bounds-row_sums-end-2 c = lent_length 1024 (size_bound _ c.requires.r_value.0)

pub row_sums-requires-2 : goal.row_sums-requires-2
row_sums-requires-2 c =
    record {
      p_nonzero = omega arith;
      all =
          rows-within (lent_length 1024 (size_bound _ c.requires.r_value.0)) (length c.args.input.now.z.now)
          (entries_of c.args.input.now.circuit.matrices.b.now) c.requires.all.1;
    }

pub slice_bounds-left-end-2 : goal.slice_bounds-left-end-2
slice_bounds-left-end-2 c = made_holds (made_in c.row_sums.new.out (size_bound _ c.requires.r_value.0) c.row_sums.auto.out)

pub slice_bounds-product_quotient_at-end : goal.slice_bounds-product_quotient_at-end
slice_bounds-product_quotient_at-end c = made_length (made_in c.row_sums.new.out (size_bound _ c.requires.r_value.0) c.row_sums.auto.out)

pub slice_bounds-right-end-2 : goal.slice_bounds-right-end-2
slice_bounds-right-end-2 c = made_holds (made_in c.row_sums-2.new.out (size_bound _ c.requires.r_value.0) c.row_sums-2.auto.out)

pub slice_bounds-product_quotient_at-end-2 : goal.slice_bounds-product_quotient_at-end-2
slice_bounds-product_quotient_at-end-2 c =
    made_length (made_in c.row_sums-2.new.out (size_bound _ c.requires.r_value.0) c.row_sums-2.auto.out)

pub product_quotient_at-requires : goal.product_quotient_at-requires
product_quotient_at-requires c =
    record {
      lt_p = c.requires.lt_p;
      n_value = c.requires.r_value;
      lagrange_len = (
        c.requires.rows_len,
        sym (made_length (made_in c.row_sums.new.out (size_bound _ c.requires.r_value.0) c.row_sums.auto.out)),
        sym
            (made_length (made_in c.row_sums-2.new.out (size_bound _ c.requires.r_value.0) c.row_sums-2.auto.out)),
      );
    }

pub returns : goal.returns
returns c q K lagrange k W eR matrix-a matrix-b ẑ on =
    let right_made = made_in c.row_sums-2.new.out (size_bound _ c.requires.r_value.0) c.row_sums-2.auto.out in
    let left_made = made_in c.row_sums.new.out (size_bound _ c.requires.r_value.0) c.row_sums.auto.out in
    let a = c.args in
    let z : List (Elem q) = map of a.input.now.z.now in
    c.product_quotient_at.ensures q K lagrange (eval (row_quotient k ẑ) (of a.alpha))
    (row-quotient_made (known-qualifies K) k (known_formed K W) eR ẑ z on
    (part a.input.now.circuit.r c.row_sums.new.out) (part a.input.now.circuit.r c.row_sums-2.new.out)
    (made_list left_made (tabulate a.input.now.circuit.r (row_sum k A z))
    (made_by_length left_made (λ n. tabulate n (row_sum k A z)) (c.row_sums.ensures q K.value k A matrix-a)))
    (made_list right_made (tabulate a.input.now.circuit.r (row_sum k B z))
    (made_by_length right_made (λ n. tabulate n (row_sum k B z)) (c.row_sums-2.ensures q K.value k B matrix-b))) (of a.alpha))
