-- `grown_words::places::find_place` meets its contract: what is left of the search gives what the whole gives, and it is within the row. The
-- measure is the number of entries left. Assumes nothing.
use Rattle.std.proofs.Common.{◌≡◌, ap, ℕ, ◌+◌, ◌-◌, ◌*◌, ◌/◌, arith, get_or}
use Rattle.protocol.specs.Grown.{column_at}
use Rattle.grown_words.proofs.PlaceLaws.{left-all, left_after, left_before, left-none}
use Rattle.grown_words.proofs.places.find_place.Goals as goal
use Rattle.grown_words.proofs.places.find_place.Goals.{In-loop-count}

-- the word that a turn reads is the column in the middle
middle : (turn : In-loop-count) → let a = turn.args in let k = turn.loop-count.from + turn.loop-count.count / 2 in
    get_or a.circuit.now (turn.entries_place-entries.result + 3 * k + 1) 0 ≡ column_at a.circuit.now a.matrix k
middle turn =
    ap (λ (e : ℕ). get_or turn.args.circuit.now (e + 3 * (turn.loop-count.from + turn.loop-count.count / 2) + 1) 0)
    turn.entries_place-entries.ensures

pub loop-count-init : goal.loop-count-init
loop-count-init c =
    let a = c.args in
    (omega arith, left-all (column_at a.circuit.now a.matrix) a.column a.start (a.end - a.start))

pub loop-count-preserved-then-circuit-entries : goal.loop-count-preserved-then-circuit-entries
loop-count-preserved-then-circuit-entries c =
    let turn = (goal.at.loop-count-preserved-then-circuit-entries c).In-loop-count in
    (omega arith, left_after _ _ turn.loop-count.invariant.1 (omega arith) (omega (arith, c.if-circuit-entries.true, middle turn)))

pub loop-count-preserved : goal.loop-count-preserved
loop-count-preserved c =
    let turn = (goal.at.loop-count-preserved c).In-loop-count in
    (omega arith, left_before _ _ turn.loop-count.invariant.1 (omega arith) (omega (arith, c.if-circuit-entries.false, middle turn)))

pub returns : goal.returns
returns c = left-none _ _ c.loop-count.invariant.1 (omega arith)
