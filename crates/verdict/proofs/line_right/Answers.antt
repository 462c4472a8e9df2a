-- `verdict::line_right` meets its contract. Assumes nothing.
use Rattle.domain.specs.Domain.{vanishing}
use Rattle.field.proofs.Words.{of-result}
use Rattle.field.specs.Element.{Elem, of, ◌⊕◌, ◌⊗◌}
use Rattle.field.specs.Power.{reciprocal}
use Rattle.protocol.specs.Checks.{line_right}
use mathlib.Core.Path.{ap, ap₂, ◌∙◌}
use Rattle.verdict.proofs.line_right.Goals as goal

pub returns : goal.returns
unfolding line_right
returns c q Q e is-columns =
    let a = c.args in
    let β : Elem q = of a.beta in
    let h1 : Elem q = of a.quotient in
    let σ : Elem q = of a.sum in
    let share = of-result (reciprocal (of {q = q} a.s.c)) (c.size_inverse.ensures q Q e) in
    let mean = of-result (σ ⊗ of _) (c.multiply-mean.ensures q e) ∙ ap (λ v. σ ⊗ v) share in
    let rest = of-result (β ⊗ of a.remainder) (c.multiply-rest.ensures q e) in
    let vanish = of-result (vanishing a.s.c β) is-columns in
    let two = of-result (h1 ⊗ of _ ⊕ of _) (c.multiply_add.ensures q e) ∙ ap₂ (λ u v. h1 ⊗ u ⊕ v) vanish rest in
    c.add.ensures q e ∙ ap₂ (λ u v. (u ⊕ v).word) two mean
