-- `sheet_lines::numbers::end_number` meets its contract. Assumes nothing.
use Rattle.std.proofs.Common.{◌≡◌, sym, ap, arith}
use Rattle.sheet_lines.specs.Scanning.{counted, ended_number, number_ended}
use Rattle.sheet_lines.proofs.numbers.end_number.Goals as goal

pub returns-in-None : goal.returns-in-None
unfolding number_ended
returns-in-None c = sym (ap (λ o. ended_number o c.args.s) c.in-None.is)

pub returns-in-Some : goal.returns-in-Some
unfolding number_ended
returns-in-Some c =
    let count : c.min.result ≡ counted c.args.s.count = omega arith in
    rw (count, c.push.ensures) (sym (ap (λ o. ended_number o c.args.s) c.in-Some.is))
