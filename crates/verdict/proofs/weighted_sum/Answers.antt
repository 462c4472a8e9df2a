-- `verdict::weighted_sum` meets its contract. Assumes nothing.
use Rattle.field.proofs.Words.{of-result}
use Rattle.field.specs.Element.{of, ◌⊕◌, ◌⊗◌}
use Rattle.protocol.specs.Checks.{weighted}
use mathlib.Core.Path.{ap₂, ◌∙◌}
use Rattle.verdict.proofs.weighted_sum.Goals as goal

pub returns : goal.returns
unfolding weighted
returns c q e =
    let a = c.args in
    let first = of-result (of {q = q} a.eta.a ⊗ of a.v.a) (c.multiply-a.ensures q e) in
    let second = of-result (of {q = q} a.eta.b ⊗ of a.v.b) (c.multiply-b.ensures q e) in
    let third = of-result (of {q = q} a.eta.c ⊗ of a.v.c) (c.multiply-c.ensures q e) in
    let two = of-result (of {q = q} _ ⊕ of _) (c.add.ensures q e) ∙ ap₂ ◌⊕◌ first second in
    c.add-2.ensures q e ∙ ap₂ (λ u v. (u ⊕ v).word) two third
