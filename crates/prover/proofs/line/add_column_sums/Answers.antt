-- `prover::line::add_column_sums` meets its contract: the entries from the i-th on are still to be added. Assumes nothing.
use Rattle.std.proofs.Common.{◌≡◌, ap, ◌∙◌, List, map, ◌<◌, arith, length, get_or}
use Rattle.field.specs.Element.{Elem, of, 𝟘, ◌⊕◌, ◌⊗◌}
use Rattle.field.proofs.Words.{of-result}
use Rattle.poly.proofs.WordLists.{element-at}
use Rattle.protocol.specs.Circuit.{Entry}
use Rattle.protocol.specs.Calls.{entries_of}
use Rattle.protocol.proofs.EntryLists.{length-entries_of}
use Rattle.circuit.specs.Given.{Within, entry_words}
use Rattle.circuit.proofs.Entries.{entry_at, entry-within}
use Rattle.prover.proofs.LineLaws.{adding_none, adding_turn, adding_end}
use Rattle.prover.proofs.line.add_column_sums.Goals as goal
use Rattle.prover.proofs.line.add_column_sums.Goals.{In-loop-i}

-- the entry that a turn takes is within the matrix
place :
    (c : In-loop-i)
    → let a = c.args in
    Within (length a.rows.now) (length a.out.now) (entry_words a.entries.now c.loop-i.i)
place c =
    entry-within (length c.args.rows.now) (length c.args.out.now) c.args.entries.now c.requires.all c.loop-i.i (omega arith)

pub loop-i-init : goal.loop-i-init
loop-i-init c q e = adding_none q _ _ _ _

pub bounds-rows-row : goal.bounds-rows-row
bounds-rows-row c = (place (goal.at.bounds-rows-row c).In-loop-i).row_below

pub bounds-out-column : goal.bounds-out-column
bounds-out-column c = omega (arith, (place (goal.at.bounds-out-column c).In-loop-i).column-below)

pub bounds-out-column-in-loop-i : goal.bounds-out-column-in-loop-i
bounds-out-column-in-loop-i c = omega (arith, (place (goal.at.bounds-out-column-in-loop-i c).In-loop-i).column-below)

pub loop-i-preserved : goal.loop-i-preserved
loop-i-preserved c q same =
    let turn = (goal.at.loop-i-preserved c).In-loop-i in
    let a = c.args in
    let l = turn.loop-i in
    let es : List Entry = entries_of a.entries.now in
    let e : Entry = entry_words a.entries.now l.i in
    let below : l.i < length es = omega (arith, length-entries_of a.entries.now) in
    let rows : List (Elem q) = map of a.rows.now in
    let product : of c.multiply-product.result ≡ of e.value ⊗ get_or rows e.row 𝟘 =
    of-result _ (c.multiply-product.ensures q same)
    ∙ ap (λ (x : Elem q). of e.value ⊗ x) (element-at a.rows.now e.row) in
    adding_turn q (of a.eta) rows es a.out.now l.out l.i e c.multiply_add.result below
    (entry_at a.entries.now l.i e below) (omega (arith, (place turn).column-below))
    (c.multiply_add.ensures q same ∙ ap (λ (x : Elem q). (of a.eta ⊗ x ⊕ of (get_or l.out e.column 0)).word) product)
    (l.invariant q same)

pub returns : goal.returns
returns c q e =
    let a = c.args in
    let l = c.loop-i in
    adding_end q (of a.eta) (map of a.rows.now) (entries_of a.entries.now) a.out.now l.out l.i
    (omega (arith, length-entries_of a.entries.now)) l.auto.out (l.invariant q e)
