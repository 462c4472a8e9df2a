-- `varuna_c::records::varuna_read_record` meets its contract. Assumes nothing.
use Rattle.std.proofs.Common.{ap, ◌∙◌}
use Rattle.c_numbers.specs.Answers.{answered, sizes_listed}
use Rattle.varuna_c.proofs.records.varuna_read_record.Goals as goal

pub returns : goal.returns
returns c =
    let a = c.args in
    c.give_sizes.ensures ∙ ap (λ o. answered (sizes_listed o) a.sizes.now) c.read_record.ensures
