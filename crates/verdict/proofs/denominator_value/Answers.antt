-- `verdict::denominator_value` meets its contract. Assumes nothing.
use Rattle.field.proofs.Words.{of-result}
use Rattle.field.specs.Element.{Elem, of, ◌⊕◌, ◌⊗◌, ◌⊖◌}
use Rattle.protocol.specs.Checks.{denominator_value}
use Rattle.protocol.specs.Index.{map_index}
use Rattle.shared.specs.Meanings.{index_words}
use mathlib.Core.Path.{ap, ap₂, ◌∙◌}
use Rattle.verdict.proofs.denominator_value.Goals as goal

pub returns : goal.returns
unfolding denominator_value
returns c q e =
    let a = c.args in
    let index = map_index (of {q = q}) (index_words a.index) in
    let α : Elem q = of a.alpha in
    let β : Elem q = of a.beta in
    let product = of-result (α ⊗ β) (c.multiply.ensures q e) in
    let column = of-result (α ⊗ index.col) (c.multiply-2.ensures q e) in
    let first = of-result (of {q = q} _ ⊖ of _) (c.subtract-first.ensures q e) ∙ ap₂ ◌⊖◌ product column in
    let row = of-result (β ⊗ index.row) (c.multiply-3.ensures q e) in
    let second = of-result (of {q = q} _ ⊖ of _) (c.subtract-second.ensures q e) ∙ ap₂ ◌⊖◌ first row in
    let third = of-result (of {q = q} _ ⊕ index.rowcol) (c.add-both.ensures q e) ∙ ap (λ v. v ⊕ index.rowcol) second in
    let scale = of-result (of {q = q} a.s.r ⊗ of a.s.c) (c.multiply-4.ensures q e) in
    c.multiply-5.ensures q e ∙ ap₂ (λ u v. (u ⊗ v).word) scale third
