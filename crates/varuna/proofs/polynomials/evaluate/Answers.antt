-- `varuna::polynomials::evaluate` meets its contract. Assumes nothing.
use Rattle.std.proofs.Common.{refl}
use Rattle.domain.specs.BabyBear.{baby_bear}
use Rattle.protocol.specs.Calls.{evaluate_call}
use Rattle.varuna.proofs.AnswerLaws.{refuses, done}
use Rattle.varuna.proofs.polynomials.evaluate.Goals as goal

pub returns-in_err-judge_evaluation : goal.returns-in_err-judge_evaluation
unfolding evaluate_call
returns-in_err-judge_evaluation c = refuses _ _ _ c.from_residual.ensures.1 c.in_err-judge_evaluation.ensures _

pub returns : goal.returns
unfolding evaluate_call
returns c = done _ c.in_ok-judge_evaluation.ensures (c.evaluate.ensures baby_bear refl)
