-- `varuna_c::arithmetic::varuna_multiply` meets its contract. Assumes nothing.
use Rattle.std.proofs.Common.{ap, ◌∙◌}
use Rattle.c_numbers.specs.Answers.{answered}
use Rattle.varuna_c.proofs.arithmetic.varuna_multiply.Goals as goal

pub returns : goal.returns
returns c =
    c.give_word.ensures ∙ ap (λ o. answered o c.args.res.now) c.multiply.ensures
