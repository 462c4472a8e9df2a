-- `verdict::row_holds` meets its contract. Assumes nothing.
use Rattle.domain.specs.Domain.{vanishing}
use Rattle.field.proofs.Words.{of-result}
use Rattle.field.specs.Element.{of, ◌⊗◌, ◌⊖◌}
use Rattle.protocol.specs.Checks.{row_left, row_right}
use lib.Dec.{eqb}
use mathlib.Core.Path.{ap, ap₂, ◌∙◌}
use Rattle.verdict.proofs.row_holds.Goals as goal

pub returns : goal.returns
unfolding row_left row_right
returns c q e s x index is-rows =
    let a = c.args in
    let product = of-result (of {q = q} a.t.sums.a ⊗ of a.t.sums.b) (c.multiply.ensures q e) in
    let left = c.subtract-left.ensures q e ∙ ap (λ v. (v ⊖ of a.t.sums.c).word) product in
    let vanish = of-result (vanishing s.|R| (of {q = q} a.t.alpha)) is-rows in
    let right = c.multiply-2.ensures q e ∙ ap (λ v. (of a.o.row_quotient ⊗ v).word) vanish in
    ap₂ eqb left right
