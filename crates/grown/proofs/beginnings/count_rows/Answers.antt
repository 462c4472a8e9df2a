-- `grown::beginnings::count_rows` meets its contract: after i entries the slice holds the rows' counts of them. Assumes nothing.
use Rattle.std.proofs.Common.{ap, ◌∙◌, subst, List, ℕ, ◌+◌, ◌*◌, ◌<◌, arith, length, get_or, set}
use Rattle.algebra.proofs.Counting.{all-at}
use Rattle.protocol.specs.Circuit.{Entry}
use Rattle.protocol.specs.Calls.{entries_of}
use Rattle.circuit.specs.Given.{entry_words}
use Rattle.protocol.proofs.EntryLists.{length-entries_of}
use Rattle.circuit.proofs.Entries.{entry_at}
use Rattle.grown.proofs.BeginningLaws.{counts-none, count-within, counts_turn, counts_end}
use Rattle.grown.proofs.beginnings.count_rows.Goals as goal
use Rattle.grown.proofs.beginnings.count_rows.Goals.{In-loop-i}

-- the row of entry i is among those that are counted
row_below : (c : In-loop-i) → let a = c.args in get_or a.entries.now (3 * c.loop-i.i) 0 < length a.out.now
row_below c =
    let l : List ℕ = c.args.entries.now in
    let i : ℕ = c.loop-i.i in
    let n : ℕ = length c.args.out.now in
    let below : i < length (entries_of l) = omega (arith, length-entries_of l) in
    subst (λ (e : Entry). e.row < n) (entry_at l i (entry_words l i) below)
    (all-at (λ (e : Entry). e.row < n) (entries_of l) c.requires.all i (entry_words l i) below)

pub loop-i-init : goal.loop-i-init
loop-i-init c =
    let a = c.args in c.fill.ensures.after (λ y e. e) ∙ counts-none (entries_of a.entries.now) (length a.out.now)

pub bounds-out-row : goal.bounds-out-row
bounds-out-row c = omega (arith, row_below (goal.at.bounds-out-row c).In-loop-i)

pub overflow_add-out : goal.overflow_add-out
overflow_add-out c =
    let turn = (goal.at.overflow_add-out c).In-loop-i in
    let a = turn.args in
    let l = turn.loop-i in
    let row : ℕ = get_or a.entries.now (3 * l.i) 0 in
    omega (
      arith,
      ap (λ (out : List ℕ). get_or out row 0) l.invariant,
      count-within (entries_of a.entries.now) (length a.out.now) l.i row (omega (arith, length-entries_of a.entries.now)) (row_below turn),
      turn.requires.entries_len_bound,
    )

pub bounds-out-row-in-loop-i : goal.bounds-out-row-in-loop-i
bounds-out-row-in-loop-i c = omega (arith, row_below (goal.at.bounds-out-row-in-loop-i c).In-loop-i)

pub loop-i-preserved : goal.loop-i-preserved
loop-i-preserved c =
    let turn = (goal.at.loop-i-preserved c).In-loop-i in
    let a = turn.args in
    let l = turn.loop-i in
    let es : List Entry = entries_of a.entries.now in
    let e : Entry = entry_words a.entries.now l.i in
    let below : l.i < length es = omega (arith, length-entries_of a.entries.now) in
    ap (λ (out : List ℕ). set out e.row (get_or out e.row 0 + 1)) l.invariant
    ∙ counts_turn es (length a.out.now) l.i e below (entry_at a.entries.now l.i e below) (row_below turn)

pub returns : goal.returns
returns c =
    let a = c.args in
    let l = c.loop-i in
    l.invariant
    ∙ counts_end (entries_of a.entries.now) (length a.out.now) l.i (omega (arith, length-entries_of a.entries.now))
