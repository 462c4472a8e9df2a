-- `varuna::circuits::begin` meets its contract. Assumes nothing.
use Rattle.varuna.proofs.AnswerLent.{lent}
use Rattle.varuna.proofs.circuits.begin.Goals as goal

pub returns : goal.returns
returns c = lent _ _ c.begin.ensures
