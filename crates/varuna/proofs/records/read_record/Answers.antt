-- `varuna::records::read_record` meets its contract. Assumes nothing.
use mathlib.Core.Path.{refl}
use Rattle.domain.specs.BabyBear.{baby_bear}
use Rattle.varuna.proofs.records.read_record.Goals as goal

pub returns : goal.returns
returns c = c.read.ensures baby_bear refl
