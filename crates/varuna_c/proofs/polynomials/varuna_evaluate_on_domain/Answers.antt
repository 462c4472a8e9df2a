-- `varuna_c::polynomials::varuna_evaluate_on_domain` meets its contract. Assumes nothing.
use Rattle.std.specs.Prelude.{length}
use Rattle.domain.specs.BabyBear.{baby_bear}
use Rattle.protocol.specs.Calls.{evaluate_on_domain_call}
use Rattle.c_numbers.proofs.AnswerLaws.{filled_told}
use Rattle.varuna_c.proofs.polynomials.varuna_evaluate_on_domain.Goals as goal

pub returns : goal.returns
returns c =
    let a = c.args in
    filled_told a.values.now (evaluate_on_domain_call baby_bear a.n a.coefficients.now (length a.values.now))
    c.give_filled.ensures c.evaluate_on_domain.ensures
