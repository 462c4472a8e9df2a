-- `sheet_lines::circuits::judge` meets its contract. Assumes nothing.
use Rattle.sheet_lines.specs.Lines.{sheet_refusal}
use Rattle.shared.proofs.EarlyReturns.{stops, goes_on, last_answer_lem}
use Rattle.sheet_lines.proofs.circuits.judge.Goals as goal

pub returns-in_err-check_sizes : goal.returns-in_err-check_sizes
unfolding sheet_refusal
returns-in_err-check_sizes c = stops _ _ c.from_residual.ensures.1 c.in_err-check_sizes.ensures _

pub returns : goal.returns
unfolding sheet_refusal
returns c = goes_on c.in_ok-check_sizes.ensures _ (last_answer_lem c.check_counts.ensures)
