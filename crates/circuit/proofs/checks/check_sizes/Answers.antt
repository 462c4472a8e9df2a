-- `circuit::checks::check_sizes` meets its contract. Assumes nothing.
use mathlib.Core.Path.{◌∙◌}
use mathlib.Core.List.{[], ◌∷◌}
use Rattle.protocol.specs.Refusals.{refuse, size_tests, size_refusal}
use Rattle.circuit.proofs.checks.check_sizes.Goals as goal

pub returns : goal.returns
unfolding size_refusal size_tests
returns c =
    c.first_failed.ensures
    ∙ (λ t. refuse 4 0 (c.is_size.ensures t ∷ c.is_size-2.ensures t ∷ c.is_public_size.ensures t ∷ []))
