-- `varuna::arithmetic::multiply` meets its contract. Assumes nothing.
use Rattle.std.proofs.Common.{refl}
use Rattle.domain.specs.BabyBear.{baby_bear}
use Rattle.protocol.specs.Calls.{operation_call}
use Rattle.varuna.proofs.AnswerLaws.{refuses, done}
use Rattle.varuna.proofs.arithmetic.multiply.Goals as goal

pub returns-in_err-check_pair : goal.returns-in_err-check_pair
unfolding operation_call
returns-in_err-check_pair c = refuses _ _ _ c.from_residual.ensures.1 c.in_err-check_pair.ensures _

pub returns : goal.returns
unfolding operation_call
returns c = done _ c.in_ok-check_pair.ensures (c.multiply.ensures baby_bear refl)
