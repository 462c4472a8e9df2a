-- `circuit::matrices::row_sums` meets its contract: after i entries the slice holds the rows' sums over them. Assumes nothing.
use Rattle.std.proofs.Common.{◌≡◌, sym, ap, ap₂, ◌∙◌, List, map, ℕ, ◌<◌, arith, length, get_or}
use Rattle.algebra.specs.Lists.{tabulate}
use Rattle.field.specs.Element.{Elem, of, 𝟘, words, ◌⊕◌, ◌⊗◌}
use Rattle.field.proofs.ElementLaws.{add_comm}
use Rattle.poly.proofs.WordLists.{element-at}
use Rattle.protocol.specs.Circuit.{Entry, row_sum}
use Rattle.protocol.specs.Calls.{entries_of}
use Rattle.protocol.proofs.EntryLists.{length-entries_of}
use Rattle.circuit.specs.Given.{entry_words, Within}
use Rattle.circuit.proofs.Entries.{entry_at, entry-within}
use Rattle.circuit.proofs.Sums.{sum_at, summed_none, summed_turn, summed_end}
use Rattle.circuit.proofs.matrices.row_sums.Goals as goal
use Rattle.circuit.proofs.matrices.row_sums.Goals.{In-loop-i}

-- entry i is within the matrix
place : (c : In-loop-i)
    → let a = c.args in Within (length a.out.now) (length a.z.now) (entry_words a.entries.now c.loop-i.i)
place c =
    entry-within (length c.args.out.now) (length c.args.z.now) c.args.entries.now c.requires.all c.loop-i.i (omega arith)

pub loop-i-init : goal.loop-i-init
loop-i-init c q e =
    let a = c.args in summed_none (map of a.z.now) (entries_of a.entries.now) c.clear.new.out (length a.out.now) c.clear.ensures

pub bounds-z-column : goal.bounds-z-column
bounds-z-column c = (place (goal.at.bounds-z-column c).In-loop-i).column-below

pub bounds-out-row : goal.bounds-out-row
bounds-out-row c = omega (arith, (place (goal.at.bounds-out-row c).In-loop-i).row_below)

pub bounds-out-row-in-loop-i : goal.bounds-out-row-in-loop-i
bounds-out-row-in-loop-i c = omega (arith, (place (goal.at.bounds-out-row-in-loop-i c).In-loop-i).row_below)

pub loop-i-preserved : goal.loop-i-preserved
loop-i-preserved c q same =
    let turn = (goal.at.loop-i-preserved c).In-loop-i in
    let a = turn.args in
    let l = turn.loop-i in
    let es : List Entry = entries_of a.entries.now in
    let e : Entry = entry_words a.entries.now l.i in
    let below : l.i < length es = omega (arith, length-entries_of a.entries.now) in
    let z : List (Elem q) = map of a.z.now in
    let old : Elem q = of (get_or l.out e.row 0) in
    summed_turn z es l.out l.i e c.multiply_add.result below (entry_at a.entries.now l.i e below)
    (omega (arith, (place turn).row_below))
    (c.multiply_add.ensures q same ∙ ap (λ (x : Elem q). (of e.value ⊗ x ⊕ old).word) (element-at a.z.now e.column)
    ∙ ap (λ (x : Elem q). x.word) (add_comm (of e.value ⊗ get_or z e.column 𝟘) old)) (l.invariant q same)

pub returns : goal.returns
unfolding row_sum
returns c q e k M matrix =
    let a = c.args in
    let l = c.loop-i in
    let z : List (Elem q) = map of a.z.now in
    let same : length l.out ≡ length a.out.now = omega (arith, c.clear.auto.out) in
    summed_end z (entries_of a.entries.now) l.out l.i (omega (arith, length-entries_of a.entries.now)) (l.invariant q e)
    ∙ ap₂ (λ (n : ℕ) (es : List Entry). words (tabulate n (sum_at z es))) same (sym matrix)
