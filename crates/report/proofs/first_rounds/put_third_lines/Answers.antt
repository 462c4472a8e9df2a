-- `report::first_rounds::put_third_lines` meets its contract. Assumes nothing.
use native.Mathlib.Omega.{arith}
use Rattle.report.specs.Stages.{third_lines}
use Rattle.report.proofs.PrintedLaws.{printed_then, printed_within}
use Rattle.report.proofs.first_rounds.put_third_lines.Goals as goal

pub returns : goal.returns
unfolding third_lines
returns c =
    printed_within (printed_then c.put_line-first.ensures c.put_line.ensures) (omega (arith, c.requires.remainder_len_bound))
