-- `varuna_c::rounds::varuna_second_round` meets its contract. Assumes nothing.
use Rattle.std.proofs.Common.{ap, ◌∙◌}
use Rattle.c_numbers.specs.Answers.{answered, three_listed}
use Rattle.varuna_c.proofs.rounds.varuna_second_round.Goals as goal

pub returns : goal.returns
returns c =
    c.give_three.ensures ∙ ap (λ o. answered (three_listed o) c.args.sums.now) c.second_round-answer.ensures
