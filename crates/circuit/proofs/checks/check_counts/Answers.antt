-- `circuit::checks::check_counts` meets its contract. Assumes nothing.
use Rattle.protocol.specs.Refusals.{list_refusal}
use Rattle.circuit.proofs.checks.check_counts.Goals as goal

pub returns : goal.returns
unfolding list_refusal
returns c = c.first_failed.ensures
