-- `grown::changes::judge_entry` meets its contract: the count, the value, the entry. Assumes nothing.
use Rattle.std.proofs.Common.{◌≡◌, sym, ◌∙◌, true, arith}
use Rattle.grown.specs.Meanings.{entry_meaning}
use Rattle.grown.proofs.ChangeLaws.{room, no_room, no_word, no_entry_lem, entry-passes, room_there, row_there}
use Rattle.grown.proofs.changes.judge_entry.Goals as goal
use Rattle.grown.proofs.changes.judge_entry.Goals.{Else-not-has_room}

-- past the first test
free : (c : Else-not-has_room) → let a = c.args in room a.circuit.now a.matrix (entry_meaning a.entry) ≡ true
free c = sym c.has_room.ensures ∙ c.if-not-has_room.false

pub returns-then-not-has_room-clause-result_value : goal.returns-then-not-has_room-clause-result_value
returns-then-not-has_room-clause-result_value c q e =
    let a = c.args in no_room a.circuit.now a.matrix (entry_meaning a.entry) q (sym c.has_room.ensures ∙ c.if-not-has_room.true)

pub returns-then-entry-p-clause-result_value : goal.returns-then-entry-p-clause-result_value
returns-then-entry-p-clause-result_value c q e =
    let a = c.args in
    no_word a.circuit.now a.matrix (entry_meaning a.entry) q (free (goal.at.returns-then-entry-p-clause-result_value c).Else-not-has_room)
    (omega (arith, e, c.if-entry-p.true))

pub returns-then-not-fits_circuit-clause-result_value : goal.returns-then-not-fits_circuit-clause-result_value
returns-then-not-fits_circuit-clause-result_value c q e =
    let a = c.args in
    no_entry_lem a.circuit.now a.matrix (entry_meaning a.entry) q
    (free (goal.at.returns-then-not-fits_circuit-clause-result_value c).Else-not-has_room)
    (omega (arith, e, c.if-entry-p.false)) (sym c.fits_circuit.ensures ∙ c.if-not-fits_circuit.true)

pub returns : goal.returns
returns c =
    let a = c.args in
    let room_left = free (goal.at.returns c).Else-not-has_room in
    let fit = sym c.fits_circuit.ensures ∙ c.if-not-fits_circuit.false in
    let there = room_there a.circuit.now a.matrix (entry_meaning a.entry) room_left in
    record {
      result_value = λ q e.
          entry-passes a.circuit.now a.matrix (entry_meaning a.entry) q room_left (omega (arith, e, c.if-entry-p.false)) fit;
      matrix_bound = (there.0, (there.1, row_there a.circuit.now a.matrix (entry_meaning a.entry) fit));
    }
