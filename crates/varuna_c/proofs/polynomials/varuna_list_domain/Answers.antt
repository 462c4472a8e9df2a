-- `varuna_c::polynomials::varuna_list_domain` meets its contract. Assumes nothing.
use Rattle.std.specs.Prelude.{length}
use Rattle.domain.specs.BabyBear.{baby_bear}
use Rattle.protocol.specs.Calls.{domain_call}
use Rattle.c_numbers.proofs.AnswerLaws.{filled_told}
use Rattle.varuna_c.proofs.polynomials.varuna_list_domain.Goals as goal

pub returns : goal.returns
returns c =
    let a = c.args in
    filled_told a.elements.now (domain_call baby_bear a.n (length a.elements.now))
    c.give_filled.ensures c.list_domain.ensures
