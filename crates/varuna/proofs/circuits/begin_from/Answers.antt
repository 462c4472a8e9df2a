-- `varuna::circuits::begin_from` meets its contract. Assumes nothing.
use Rattle.std.proofs.Common.{refl, rules}
use Rattle.domain.specs.BabyBear.{baby_bear}
use Rattle.varuna.proofs.AnswerLent.{lent}
use Rattle.varuna.proofs.circuits.begin_from.Goals as goal

pub begin_from-requires : goal.begin_from-requires
begin_from-requires c = record { circuit_len = search rules; p_value = (baby_bear, refl) }

pub returns : goal.returns
returns c = lent _ _ (c.begin_from.ensures baby_bear refl)
