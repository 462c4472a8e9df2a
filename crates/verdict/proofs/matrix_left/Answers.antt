-- `verdict::matrix_left` meets its contract. Assumes nothing.
use Rattle.domain.specs.Domain.{vanishing}
use Rattle.field.proofs.Words.{of-result}
use Rattle.field.specs.Element.{of, ◌⊕◌, ◌⊗◌, ◌⊖◌}
use Rattle.field.specs.Power.{reciprocal, ◌⊘◌}
use Rattle.protocol.proofs.ThreeLaws.{at_each}
use Rattle.protocol.specs.Checks.{map_transcript, numerator_value, denominator_value, matrix_left}
use Rattle.protocol.specs.Index.{map_index}
use Rattle.shared.specs.Meanings.{three, sizes, transcript, index_words}
use Rattle.protocol.specs.Three.{at}
use mathlib.Core.Path.{sym, ap, ap₂, ◌∙◌}
use Rattle.verdict.proofs.matrix_left.Goals as goal

pub returns : goal.returns
unfolding matrix_left numerator_value
returns c q Q e is-scale M k v =
    let a = c.args in
    let s = sizes a.s in
    let t = map_transcript (of {q = q}) (transcript a.t) in
    let index = map_index (of {q = q}) (index_words a.index) in
    let scale = of-result (vanishing s.|R| t.α ⊗ vanishing s.|C| t.β) is-scale in
    let numerator = of-result (of {q = q} a.scale ⊗ index.rowcolval) (c.multiply-numerator.ensures q e)
    ∙ ap (λ u. u ⊗ index.rowcolval) scale in
    let denominator = of-result (denominator_value s t.α t.β index) (c.denominator_value-denominator.ensures q e) in
    let value = ap (of {q = q}) (sym v) ∙ sym (at_each (λ N. of {q = q} (at (three a.t.values) N)) M) in
    let share = of-result (reciprocal (of {q = q} a.size)) (c.size_inverse.ensures q Q e) in
    let product = of-result (of {q = q} a.value ⊗ of _) (c.multiply-mean.ensures q e) in
    let mean = product ∙ ap₂ ◌⊗◌ value share ∙ ap (λ n. at t.values M ⊘ of n) (sym k) in
    let ratio = of-result (t.γ ⊗ of a.remainder ⊕ of _) (c.multiply_add-ratio.ensures q e)
    ∙ ap (λ u. t.γ ⊗ of a.remainder ⊕ u) mean in
    let other = of-result (of {q = q} _ ⊗ of _) (c.multiply.ensures q e) ∙ ap₂ ◌⊗◌ denominator ratio in
    c.subtract.ensures q e ∙ ap₂ (λ u w. (u ⊖ w).word) numerator other
