-- `figures::messages::put_labelled` meets its contract. Assumes nothing.
use native.Mathlib.Omega.{arith}
use Rattle.text.proofs.WrittenLaws.{written-length}
use Rattle.figures.proofs.TableLaws.{within-room, within_then, few-digits}
use Rattle.figures.proofs.messages.put_labelled.Goals as goal

pub put_decimal-requires : goal.put_decimal-requires
put_decimal-requires c =
    let w = c.put_bytes-place.ensures in
    omega (arith, c.requires, w.next, written-length w, few-digits c.args.n (omega (arith, c.ranges.n)))

pub returns : goal.returns
returns c =
    within_then (within-room _ (omega arith) c.put_bytes-place.ensures)
    (within-room 20 (few-digits c.args.n (omega (arith, c.ranges.n))) c.put_decimal.ensures)
