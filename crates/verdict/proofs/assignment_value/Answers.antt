-- `verdict::assignment_value` meets its contract. Assumes nothing.
use Rattle.domain.specs.Domain.{vanishing}
use Rattle.domain.specs.Polynomial.{eval, interpolate}
use Rattle.field.proofs.Words.{of-result}
use Rattle.field.specs.Element.{Elem, of, ◌⊕◌, ◌⊗◌}
use Rattle.protocol.specs.Checks.{assignment_value}
use mathlib.Core.List.{map}
use mathlib.Core.Path.{ap, ap₂, ◌∙◌}
use Rattle.verdict.proofs.assignment_value.Goals as goal

pub returns : goal.returns
unfolding assignment_value
returns c q K Q =
    let a = c.args in
    let β : Elem q = of a.beta in
    let w : Elem q = of a.witness in
    let vanish = of-result (vanishing a.s.x β) (c.vanishing_value-vanishing.ensures q K.value) in
    let public = of-result (eval (interpolate a.s.x (map of a.x.now)) β) (c.public_value-public.ensures q K Q) in
    let multiple = of-result (w ⊗ of _) (c.multiply.ensures q K.value) ∙ ap (λ v. w ⊗ v) vanish in
    c.add.ensures q K.value ∙ ap₂ (λ u v. (u ⊕ v).word) multiple public
