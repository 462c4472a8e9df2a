-- `circuit::checks::check_sums` meets its contract. Assumes nothing.
use mathlib.Core.Path.{sym, ap, ◌∙◌, subst⁻¹}
use mathlib.Core.List.{List, map}
use Prim.Native.Nat.{ℕ}
use lib.ListN.{length}
use Rattle.algebra.specs.Counting.{All}
use Rattle.algebra.specs.Lists.{tabulate}
use Rattle.field.specs.Element.{Elem, of, words, equal, ◌⊗◌}
use Rattle.protocol.specs.Three.{A, B, C}
use Rattle.protocol.specs.Circuit.{row_sum}
use Rattle.protocol.specs.Refusals.{refuse, assignment_refusal}
use Rattle.protocol.specs.Calls.{entries_of}
use Rattle.circuit.specs.Given.{Within}
use Rattle.circuit.proofs.checks.check_sums.Goals as goal

pub row_sums-requires-2 : goal.row_sums-requires-2
row_sums-requires-2 c =
    let within : ℕ → Type 0 = λ (n : ℕ). All (Within n (length c.args.z.now)) (entries_of c.args.matrices.b.now) in
    record {
      p_nonzero = c.requires.p_nonzero;
      all = subst⁻¹ within c.requires.right_len.0 c.requires.each_within.in_b;
    }

pub row_sums-requires-3 : goal.row_sums-requires-3
row_sums-requires-3 c =
    let within : ℕ → Type 0 = λ (n : ℕ). All (Within n (length c.args.z.now)) (entries_of c.args.matrices.c.now) in
    record {
      p_nonzero = c.requires.p_nonzero;
      all = subst⁻¹ within c.requires.right_len.1 c.requires.each_within.in_c;
    }

pub returns : goal.returns
unfolding assignment_refusal
returns c q e k rows matrices =
    let z : List (Elem q) = map of c.args.z.now in
    c.check_rows.ensures q e (length c.args.left.now) (row_sum k A z) (row_sum k B z) (row_sum k C z)
    (c.row_sums.ensures q e k A (ap (λ t. t.a) matrices))
    (c.row_sums-2.ensures q e k B (ap (λ t. t.b) matrices) ∙ ap (λ (n : ℕ). words (tabulate n (row_sum k B z))) c.requires.right_len.0)
    (c.row_sums-3.ensures q e k C (ap (λ t. t.c) matrices) ∙ ap (λ (n : ℕ). words (tabulate n (row_sum k C z))) c.requires.right_len.1)
    ∙ ap (λ (n : ℕ). refuse 9 0 (tabulate n (λ i. equal (row_sum k A z i ⊗ row_sum k B z i) (row_sum k C z i)))) (sym rows)
