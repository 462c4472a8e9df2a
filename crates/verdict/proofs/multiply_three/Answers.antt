-- `verdict::multiply_three` meets its contract. Assumes nothing.
use Rattle.field.proofs.Words.{of-result}
use Rattle.field.specs.Element.{Elem, of, ◌⊗◌}
use mathlib.Core.Path.{ap, ◌∙◌}
use Rattle.verdict.proofs.multiply_three.Goals as goal

pub returns : goal.returns
returns c q e =
    let a = c.args in
    c.multiply-2.ensures q e
    ∙ ap (λ (x : Elem q). (x ⊗ of a.c).word) (of-result (of a.a ⊗ of a.b) (c.multiply.ensures q e))
