-- `varuna::records::find_section` meets its contract. Assumes nothing.
use mathlib.Core.Path.{refl}
use Rattle.domain.specs.BabyBear.{baby_bear}
use Rattle.varuna.proofs.records.find_section.Goals as goal

pub returns : goal.returns
returns c = c.find_section.ensures.result_value baby_bear refl
