-- `circuit::checks::check_entry_lists` meets its contract. Assumes nothing.
use mathlib.Core.Path.{◌∙◌}
use mathlib.Core.List.{[], ◌∷◌}
use Rattle.protocol.specs.Refusals.{refuse}
use Rattle.circuit.proofs.checks.check_entry_lists.Goals as goal

pub returns : goal.returns
returns c =
    c.first_failed.ensures
    ∙ (λ t. refuse 5 0 (c.entry_list_fits.ensures t ∷ c.entry_list_fits-2.ensures t ∷ c.entry_list_fits-3.ensures t ∷ []))
