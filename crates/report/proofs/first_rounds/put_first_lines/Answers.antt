-- `report::first_rounds::put_first_lines` meets its contract. Assumes nothing.
use native.Mathlib.Omega.{arith}
use Rattle.report.specs.Stages.{first_lines}
use Rattle.report.proofs.PrintedLaws.{printed_then, printed_within}
use Rattle.report.proofs.first_rounds.put_first_lines.Goals as goal

pub returns : goal.returns
unfolding first_lines
returns c =
    printed_within
    (printed_then c.put_line-first.ensures (printed_then c.put_line-second.ensures c.put_line.ensures))
    (omega (arith, c.requires.witness_len_bound))
