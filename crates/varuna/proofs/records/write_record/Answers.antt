-- `varuna::records::write_record` meets its contract. Assumes nothing.
use Rattle.std.proofs.Common.{refl}
use Rattle.domain.specs.BabyBear.{baby_bear}
use Rattle.varuna.proofs.AnswerLent.{lent}
use Rattle.varuna.proofs.records.write_record.Goals as goal

pub returns : goal.returns
returns c = lent _ _ (c.write.ensures baby_bear refl)
