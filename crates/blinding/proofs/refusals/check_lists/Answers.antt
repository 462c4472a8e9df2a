-- `blinding::refusals::check_lists` meets its contract. Assumes nothing.
use mathlib.Core.Path.{◌∙◌}
use mathlib.Core.List.{[], ◌∷◌}
use lib.Dec.{eqb}
use Rattle.protocol.specs.Refusals.{refuse}
use Rattle.blinding.proofs.refusals.check_lists.Goals as goal

pub returns : goal.returns
returns c =
    let a = c.args in
    c.first_failed.ensures
    ∙ (λ t. refuse 5 0 (c.has_room.ensures t ∷ c.has_room-2.ensures t ∷ c.has_room-3.ensures t ∷ eqb a.z a.c ∷ []))
