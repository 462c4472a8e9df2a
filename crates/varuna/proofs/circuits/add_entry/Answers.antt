-- `varuna::circuits::add_entry` meets its contract. Assumes nothing.
use Rattle.std.proofs.Common.{refl}
use Rattle.domain.specs.BabyBear.{baby_bear}
use Rattle.varuna.proofs.AnswerLent.{lent}
use Rattle.varuna.proofs.circuits.add_entry.Goals as goal

pub returns : goal.returns
returns c = lent _ _ (c.add_entry.ensures baby_bear refl)
