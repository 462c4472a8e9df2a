-- `prover::rows::sums_at` meets its contract. Assumes nothing.
use mathlib.Core.Path.{◌≡◌, sym, ap, ◌∙◌}
use mathlib.Core.List.{List, ◌++◌, map}
use Prim.Native.Nat.{ℕ, ◌≤◌}
use native.Mathlib.Omega.{arith}
use lib.ListN.{length, take, drop, replicate}
use Rattle.algebra.specs.Lists.{tabulate}
use Rattle.field.specs.Prime.{Prime}
use Rattle.field.specs.Element.{Elem, of, words}
use Rattle.domain.specs.Size.{is_size}
use Rattle.domain.specs.Domain.{element, lagrange}
use Rattle.domain.specs.Known.{Known}
use Rattle.domain.proofs.SizeLaws.{size_bound}
use Rattle.protocol.specs.Three.{MatrixName, A, B, C, Three, at}
use Rattle.protocol.specs.Circuit.{Entry}
use Rattle.protocol.specs.Calls.{entries_of}
use Rattle.protocol.specs.Messages.{image, sums}
use Rattle.poly.proofs.LentParts.{part_length, filled_within, filled_length, of_filled}
use Rattle.prover.specs.EntrySums.{entry_total}
use Rattle.prover.proofs.RowLaws.{known_formed, rows-within, row_values, row-sum_made}
use Rattle.prover.proofs.rows.sums_at.Goals as goal
use Rattle.prover.proofs.rows.sums_at.Goals.{After-lagrange_values_into, Start}

bound : (c : Start) → c.args.input.now.circuit.r ≤ 1024
bound c = size_bound c.args.input.now.circuit.r c.requires.r_value

abbrev left : After-lagrange_values_into → List ℕ
left c = c.lagrange_values_into.new.out

-- the rows' values, lent again
abbrev again : After-lagrange_values_into → List ℕ
again c = left c ++ drop c.args.input.now.circuit.r (replicate 1024 0)

part_again : (c : After-lagrange_values_into) → c.args.input.now.circuit.r ≤ length (again c)
part_again c =
    filled_within _ (replicate 1024 0) (bound (goal.at.After-lagrange_values_into c).Start) (left c) c.lagrange_values_into.auto.out

whole_again : (c : After-lagrange_values_into) → c.args.input.now.circuit.r ≡ length (take c.args.input.now.circuit.r (again c))
whole_again c =
    filled_length _ (replicate 1024 0) (bound (goal.at.After-lagrange_values_into c).Start) (left c) c.lagrange_values_into.auto.out

rows_made : (c : After-lagrange_values_into) {q : Prime} → Known q c.args.p
    → map of (take c.args.input.now.circuit.r (again c)) ≡ row_values {q = q} c.args.input.now.circuit.r (of c.args.alpha)
rows_made c {q} known =
    let s = (goal.at.After-lagrange_values_into c).Start in
    let α : Elem q = of s.args.alpha in
    of_filled _ (replicate 1024 0) (bound s) (left c) c.lagrange_values_into.auto.out (row_values s.args.input.now.circuit.r α)
    (c.lagrange_values_into.ensures q known
    ∙ ap (λ (n : ℕ). words (tabulate n (λ i. lagrange n (element n i) α))) (sym (part_length _ (replicate 1024 0) (bound s))))

pub slice_bounds-rows-end : goal.slice_bounds-rows-end
slice_bounds-rows-end c = bound (goal.at.slice_bounds-rows-end c).Start

pub slice_bounds-lagrange_values_into-end : goal.slice_bounds-lagrange_values_into-end
slice_bounds-lagrange_values_into-end c = part_length _ _ (bound (goal.at.slice_bounds-lagrange_values_into-end c).Start)

pub lagrange_values_into-requires : goal.lagrange_values_into-requires
lagrange_values_into-requires c =
    let s = (goal.at.lagrange_values_into-requires c).Start in
    record {
      lt_p = s.requires.lt_p;
      out_value = ap is_size (sym (part_length _ _ (bound s))) ∙ s.requires.r_value;
    }

pub slice_bounds-rows-end-2 : goal.slice_bounds-rows-end-2
slice_bounds-rows-end-2 c = part_again (goal.at.slice_bounds-rows-end-2 c).After-lagrange_values_into

pub slice_bounds-entries_sum-end : goal.slice_bounds-entries_sum-end
slice_bounds-entries_sum-end c = whole_again (goal.at.slice_bounds-entries_sum-end c).After-lagrange_values_into

pub entries_sum-requires : goal.entries_sum-requires
entries_sum-requires c =
    let r = (goal.at.entries_sum-requires c).After-lagrange_values_into in
    record {
      p_nonzero = omega arith;
      all =
          rows-within (whole_again r) (length r.args.input.now.z.now)
          (entries_of r.args.input.now.circuit.matrices.a.now) r.requires.each_within.in_a;
    }

pub slice_bounds-rows-end-3 : goal.slice_bounds-rows-end-3
slice_bounds-rows-end-3 c = part_again (goal.at.slice_bounds-rows-end-3 c).After-lagrange_values_into

pub slice_bounds-entries_sum-end-2 : goal.slice_bounds-entries_sum-end-2
slice_bounds-entries_sum-end-2 c = whole_again (goal.at.slice_bounds-entries_sum-end-2 c).After-lagrange_values_into

pub entries_sum-requires-2 : goal.entries_sum-requires-2
entries_sum-requires-2 c =
    let r = (goal.at.entries_sum-requires-2 c).After-lagrange_values_into in
    record {
      p_nonzero = omega arith;
      all =
          rows-within (whole_again r) (length r.args.input.now.z.now)
          (entries_of r.args.input.now.circuit.matrices.b.now) r.requires.each_within.in_b;
    }

pub slice_bounds-rows-end-4 : goal.slice_bounds-rows-end-4
slice_bounds-rows-end-4 c = part_again (goal.at.slice_bounds-rows-end-4 c).After-lagrange_values_into

pub slice_bounds-entries_sum-end-3 : goal.slice_bounds-entries_sum-end-3
slice_bounds-entries_sum-end-3 c = whole_again (goal.at.slice_bounds-entries_sum-end-3 c).After-lagrange_values_into

pub entries_sum-requires-3 : goal.entries_sum-requires-3
entries_sum-requires-3 c =
    let r = (goal.at.entries_sum-requires-3 c).After-lagrange_values_into in
    record {
      p_nonzero = omega arith;
      all =
          rows-within (whole_again r) (length r.args.input.now.z.now)
          (entries_of r.args.input.now.circuit.matrices.c.now) r.requires.each_within.in_c;
    }

pub returns : goal.returns
unfolding sums
returns c q known Q k W eR matrices ẑ values =
    let r = (goal.at.returns c).After-lagrange_values_into in
    let a = r.args in
    let i = a.input.now in
    let l = i.circuit.matrices in
    let α : Elem q = of a.alpha in
    let z : List (Elem q) = map of i.z.now in
    let sum : (M : MatrixName) (es : List Entry) → at k.matrices M ≡ es
    → (entry_total (map of (take i.circuit.r (again r))) z es).word ≡ (image k ẑ M α).word =
    λ M es same.
    ap (λ (x : Elem q). x.word)
    (ap (λ (rows : List (Elem q)). entry_total rows z es) (rows_made r known)
    ∙ row-sum_made q Q k (known_formed known W) eR ẑ z values M same α) in
    let in_a = ap (λ (t : Three (List Entry)). t.a) matrices in
    let in_b = ap (λ (t : Three (List Entry)). t.b) matrices in
    let in_c = ap (λ (t : Three (List Entry)). t.c) matrices in
    λ t. record {
      a = (c.entries_sum.ensures q known.value ∙ sum A (entries_of l.a.now) in_a) t;
      b = (c.entries_sum-2.ensures q known.value ∙ sum B (entries_of l.b.now) in_b) t;
      c = (c.entries_sum-3.ensures q known.value ∙ sum C (entries_of l.c.now) in_c) t;
    }
