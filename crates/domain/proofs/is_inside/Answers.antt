-- `domain::is_inside` meets its contract. Assumes nothing.
use mathlib.Core.Path.{ap, ◌∙◌}
use lib.Dec.{eqb}
use Rattle.field.specs.Element.{of}
use Rattle.domain.proofs.Membership.{inside_by_power}
use Rattle.domain.proofs.is_inside.Goals as goal

pub returns : goal.returns
returns c q Q e =
    let a = c.args in
    ap (λ r. eqb r 1) (c.raise.ensures q e) ∙ inside_by_power Q a.n c.requires.n_value (of a.y)
