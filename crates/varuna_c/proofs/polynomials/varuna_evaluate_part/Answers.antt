-- `varuna_c::polynomials::varuna_evaluate_part` meets its contract. Assumes nothing.
use Rattle.std.proofs.Common.{ap, ◌∙◌}
use Rattle.algebra.specs.Polynomial.{running}
use Rattle.c_numbers.specs.Answers.{answered}
use Rattle.varuna_c.proofs.polynomials.varuna_evaluate_part.Goals as goal

pub returns : goal.returns
returns c =
    let a = c.args in
    c.give_evaluated.ensures ∙ ap (λ o. answered o (running a.next_sum.now a.next_power.now)) c.evaluate_part.ensures
