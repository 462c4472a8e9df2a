-- `report::matrix_rounds::put_fourth_lines` meets its contract. Assumes nothing.
use native.Mathlib.Omega.{arith}
use Rattle.report.specs.Stages.{fourth_lines}
use Rattle.report.proofs.PrintedLaws.{printed_then, printed_within}
use Rattle.report.proofs.matrix_rounds.put_fourth_lines.Goals as goal

pub returns : goal.returns
unfolding fourth_lines
returns c =
    let remainders =
    printed_then c.put_line-second.ensures (printed_then c.put_line-third.ensures c.put_line.ensures) in
    printed_within (printed_then c.put_three-first.ensures remainders) (omega (arith, c.requires.ga_len_bound))
