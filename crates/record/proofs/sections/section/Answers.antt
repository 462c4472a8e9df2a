-- `record::sections::section` meets its contract: it is the part of the bytes at the place found. Assumes nothing.
use Rattle.std.proofs.Common.{◌≡◌, sym, ap, ◌∙◌, ◌+◌, ◌-◌, arith, take, drop}
use Rattle.shared.specs.Answers.{part_at}
use Rattle.record.proofs.Places.{section-at_place}
use Rattle.record.proofs.sections.section.Goals as goal

pub returns-in-Ok : goal.returns-in-Ok
returns-in-Ok c q e =
    let bytes = c.args.bytes.now in
    let place = c.in-Ok.place in
    let long : place.start + place.length - place.start ≡ place.length = omega arith in
    ap (λ n. take n (drop place.start bytes)) long ∙ ap (part_at bytes) (c.in-Ok.ensures.result_value q e)
    ∙ sym (section-at_place q bytes c.args.k)

pub returns-in-Err : goal.returns-in-Err
returns-in-Err c q e =
    ap (part_at c.args.bytes.now) (c.in-Err.ensures.result_value q e) ∙ sym (section-at_place q c.args.bytes.now c.args.k)
