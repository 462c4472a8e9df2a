-- `varuna::circuits::remove_entry` meets its contract. Assumes nothing.
use Rattle.varuna.proofs.AnswerLent.{lent}
use Rattle.varuna.proofs.circuits.remove_entry.Goals as goal

pub returns : goal.returns
returns c = lent _ _ c.remove_entry.ensures
