-- `openings::matrix::difference_at` meets its contract. Assumes nothing.
use mathlib.Core.Path.{sym, ap, ap₂, ◌∙◌}
use Prim.Native.Nat.{ℕ}
use Rattle.field.specs.Element.{Elem, of, ◌⊗◌, ◌⊖◌}
use Rattle.field.proofs.Words.{of-result}
use Rattle.domain.specs.Domain.{vanishing}
use Rattle.protocol.specs.Checks.{numerator_value, denominator_value}
use Rattle.protocol.specs.Index.{map_index}
use Rattle.openings.specs.OpeningsGiven.{index_meaning}
use Rattle.openings.proofs.matrix.difference_at.Goals as goal

pub returns : goal.returns
unfolding numerator_value
returns c q e s eR eC made =
    let a = c.args in
    let α : Elem q = of a.challenges.now.alpha in
    let β : Elem q = of a.challenges.now.beta in
    let scale = of-result (vanishing a.circuit.now.r α ⊗ vanishing a.circuit.now.c β) made
    ∙ ap₂ (λ (m n : ℕ). vanishing m α ⊗ vanishing n β) (sym eR) (sym eC) in
    let above = of-result (of {q = q} a.scale ⊗ of a.i.rowcolval) (c.multiply-numerator.ensures q e)
    ∙ ap (λ (v : Elem q). v ⊗ of a.i.rowcolval) scale in
    let below = of-result (denominator_value s α β (map_index of (index_meaning a.i)))
    (c.denominator_at-denominator.ensures q e s eR eC) in
    let product = of-result (of {q = q} _ ⊗ of a.ratio) (c.multiply.ensures q e)
    ∙ ap (λ (v : Elem q). v ⊗ of a.ratio) below in
    of-result (of {q = q} _ ⊖ of _) (c.subtract.ensures q e) ∙ ap₂ ◌⊖◌ above product
