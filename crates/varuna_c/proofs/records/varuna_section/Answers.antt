-- `varuna_c::records::varuna_section` meets its contract. Assumes nothing.
use Rattle.std.proofs.Common.{ap, ◌∙◌}
use Rattle.c_numbers.specs.Answers.{answered}
use Rattle.varuna_c.proofs.records.varuna_section.Goals as goal

pub returns : goal.returns
returns c =
    let a = c.args in
    c.give_place.ensures ∙ ap (λ o. answered o (a.start.now, a.length.now)) c.find_section.ensures
