-- `varuna::records::section` meets its contract. Assumes nothing.
use mathlib.Core.Path.{refl}
use Rattle.domain.specs.BabyBear.{baby_bear}
use Rattle.varuna.proofs.records.section.Goals as goal

pub returns : goal.returns
returns c = c.section.ensures baby_bear refl
