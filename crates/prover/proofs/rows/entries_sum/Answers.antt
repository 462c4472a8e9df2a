-- `prover::rows::entries_sum` meets its contract: the sum of the entries before the i-th. Assumes nothing.
use Rattle.std.proofs.Common.{◌≡◌, ap, ap₂, ◌∙◌, List, map, ◌<◌, arith, length, get_or}
use Rattle.field.specs.Element.{Elem, of, 𝟘, ◌⊕◌, ◌⊗◌}
use Rattle.field.proofs.Words.{of-result}
use Rattle.poly.proofs.WordLists.{element-at}
use Rattle.protocol.specs.Circuit.{Entry}
use Rattle.protocol.specs.Calls.{entries_of}
use Rattle.protocol.proofs.EntryLists.{length-entries_of}
use Rattle.circuit.specs.Given.{Within, entry_words}
use Rattle.circuit.proofs.Entries.{entry_at, entry-within}
use Rattle.prover.proofs.RowLaws.{total-none, total_turn, total_end}
use Rattle.prover.proofs.rows.entries_sum.Goals as goal
use Rattle.prover.proofs.rows.entries_sum.Goals.{In-loop-i}

-- the entry that a turn takes is within the matrix
place :
    (c : In-loop-i)
    → let a = c.args in
    Within (length a.rows.now) (length a.z.now) (entry_words a.entries.now c.loop-i.i)
place c =
    entry-within (length c.args.rows.now) (length c.args.z.now) c.args.entries.now c.requires.all c.loop-i.i
    (omega arith)

pub loop-i-init : goal.loop-i-init
loop-i-init c q e =
    let a = c.args in
    total-none q (map of a.rows.now) (map of a.z.now) (entries_of a.entries.now)

pub bounds-rows-row : goal.bounds-rows-row
bounds-rows-row c = (place (goal.at.bounds-rows-row c).In-loop-i).row_below

pub bounds-z-column : goal.bounds-z-column
bounds-z-column c = (place (goal.at.bounds-z-column c).In-loop-i).column-below

pub loop-i-preserved : goal.loop-i-preserved
loop-i-preserved c q same =
    let a = c.args in
    let l = c.loop-i in
    let es : List Entry = entries_of a.entries.now in
    let e : Entry = entry_words a.entries.now l.i in
    let below : l.i < length es = omega (arith, length-entries_of a.entries.now) in
    let product = c.multiply-product in
    let rows : List (Elem q) = map of a.rows.now in
    let made : of product.result ≡ of e.value ⊗ get_or rows e.row 𝟘 =
    of-result _ (product.ensures q same) ∙ ap (λ (x : Elem q). of e.value ⊗ x) (element-at a.rows.now e.row) in
    total_turn q rows (map of a.z.now) es l.sum l.i c.multiply_add-sum.result e below
    (entry_at a.entries.now l.i e below)
    (c.multiply_add-sum.ensures q same
    ∙ ap₂ (λ (x y : Elem q). (x ⊗ y ⊕ of l.sum).word) made (element-at a.z.now e.column))
    (l.invariant q same)

pub returns : goal.returns
returns c q e =
    let a = c.args in
    let l = c.loop-i in
    total_end q (map of a.rows.now) (map of a.z.now) (entries_of a.entries.now) l.sum l.i
    (omega (arith, length-entries_of a.entries.now)) (l.invariant q e)
