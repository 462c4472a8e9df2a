-- `varuna_c::circuits::varuna_circuit_row` meets its contract. Assumes nothing.
use Rattle.std.proofs.Common.{ap, ◌∙◌}
use Rattle.c_numbers.specs.Answers.{answered}
use Rattle.varuna_c.proofs.circuits.varuna_circuit_row.Goals as goal

pub returns : goal.returns
returns c =
    let a = c.args in
    c.give_place.ensures ∙ ap (λ o. answered o (a.start.now, a.length.now)) c.find_row.ensures
