-- `report::lines::put_numbers` meets its contract: the words so far are in place. Assumes nothing.
use Rattle.std.proofs.Common.{rules, get_or, arith}
use Rattle.report.proofs.PrintedLaws.{word-digits, numbers-none, number_added, printed_place, printed_length}
use Rattle.report.proofs.lines.put_numbers.Goals as goal

pub loop-word-init : goal.loop-word-init
loop-word-init c = numbers-none c.args.out.now c.args.at (omega arith)

pub put_number-next-requires : goal.put_number-next-requires
put_number-next-requires c =
    let l = c.loop-word in
    let short = word-digits (get_or c.args.words.now l.word-index 0) (search rules) in
    omega (arith, printed_place l.invariant, printed_length l.invariant, short)

pub loop-word-preserved : goal.loop-word-preserved
loop-word-preserved c =
    let l = c.loop-word in
    number_added c.args.words.now l.word-index (search rules) l.invariant (search rules) c.put_number-next.ensures
