-- `varuna::arithmetic::power` meets its contract. Assumes nothing.
use Rattle.std.proofs.Common.{refl}
use Rattle.domain.specs.BabyBear.{baby_bear}
use Rattle.protocol.specs.Calls.{power_call}
use Rattle.varuna.proofs.AnswerLaws.{refuses, done}
use Rattle.varuna.proofs.arithmetic.power.Goals as goal

pub returns-in_err-check_word : goal.returns-in_err-check_word
unfolding power_call
returns-in_err-check_word c = refuses _ _ _ c.from_residual.ensures.1 c.in_err-check_word.ensures _

pub returns : goal.returns
unfolding power_call
returns c = done _ c.in_ok-check_word.ensures (c.raise.ensures baby_bear refl)
