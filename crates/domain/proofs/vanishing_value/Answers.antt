-- `domain::vanishing_value` meets its contract. Assumes nothing.
use mathlib.Core.Path.{ap, ◌∙◌}
use Rattle.field.specs.Element.{Elem, of, 𝟙, ◌⊖◌}
use Rattle.field.specs.Power.{power}
use Rattle.field.proofs.Field.{power-is-pow}
use Rattle.field.proofs.Words.{of-result}
use Rattle.domain.specs.Domain.{vanishing}
use Rattle.domain.proofs.vanishing_value.Goals as goal

pub returns : goal.returns
unfolding vanishing
returns c q e =
    let a = c.args in
    let y : Elem q = of a.y in
    c.subtract.ensures q e
    ∙ ap (λ (x : Elem q). (x ⊖ 𝟙).word) (of-result (power y a.n) (c.raise.ensures q e) ∙ power-is-pow y a.n)
