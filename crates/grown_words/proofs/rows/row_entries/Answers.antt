-- `grown_words::rows::row_entries` meets its contract: it is the part of the words at the place found. Assumes nothing.
use Rattle.std.proofs.Common.{◌≡◌, ap, ◌∙◌, ◌+◌, ◌-◌, arith, take, drop}
use Rattle.shared.specs.Answers.{part_at}
use Rattle.grown_words.proofs.PlaceLaws.{row-at_place}
use Rattle.grown_words.proofs.rows.row_entries.Goals as goal

pub returns-in-Ok : goal.returns-in-Ok
returns-in-Ok c =
    let a = c.args in
    let place = c.in-Ok.place in
    let long : place.start + place.length - place.start ≡ place.length = omega arith in
    ap (λ n. take n (drop place.start a.circuit.now)) long ∙ ap (part_at a.circuit.now) c.in-Ok.ensures.result_value
    ∙ row-at_place a.circuit.now a.matrix a.row

pub returns-in-Err : goal.returns-in-Err
returns-in-Err c =
    let a = c.args in
    ap (part_at a.circuit.now) c.in-Err.ensures.result_value ∙ row-at_place a.circuit.now a.matrix a.row
