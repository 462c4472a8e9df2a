-- `varuna_c::polynomials::varuna_interpolate` meets its contract. Assumes nothing.
use Rattle.std.specs.Prelude.{length}
use Rattle.domain.specs.BabyBear.{baby_bear}
use Rattle.protocol.specs.Calls.{interpolate_call}
use Rattle.c_numbers.proofs.AnswerLaws.{filled_told}
use Rattle.varuna_c.proofs.polynomials.varuna_interpolate.Goals as goal

pub returns : goal.returns
returns c =
    let a = c.args in
    filled_told a.coefficients.now (interpolate_call baby_bear a.n a.values.now (length a.coefficients.now))
    c.give_filled.ensures c.interpolate.ensures
