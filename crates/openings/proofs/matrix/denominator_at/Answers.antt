-- `openings::matrix::denominator_at` meets its contract. Assumes nothing.
use mathlib.Core.Path.{sym, ap, ap₂, ◌∙◌}
use Prim.Native.Nat.{ℕ}
use Rattle.field.specs.Element.{Elem, of, ◌⊕◌, ◌⊗◌, ◌⊖◌}
use Rattle.field.proofs.Words.{of-result}
use Rattle.protocol.specs.Checks.{denominator_value}
use Rattle.openings.proofs.matrix.denominator_at.Goals as goal

pub returns : goal.returns
unfolding denominator_value
returns c q e s eR eC =
    let a = c.args in
    let α : Elem q = of a.challenges.now.alpha in
    let β : Elem q = of a.challenges.now.beta in
    let corner = of-result (α ⊗ β) (c.multiply-corner.ensures q e) in
    let column = of-result (α ⊗ of a.i.col) (c.multiply.ensures q e) in
    let first = of-result (of {q = q} _ ⊖ of _) (c.subtract-first.ensures q e)
    ∙ ap₂ ◌⊖◌ corner column in
    let row = of-result (β ⊗ of a.i.row) (c.multiply-2.ensures q e) in
    let second = of-result (of {q = q} _ ⊖ of _) (c.subtract-second.ensures q e) ∙ ap₂ ◌⊖◌ first row in
    let rowcol : Elem q = of a.i.rowcol in
    let both = of-result (of {q = q} _ ⊕ rowcol) (c.add-both.ensures q e) ∙ ap (λ v. v ⊕ rowcol) second in
    let scale = of-result (of {q = q} a.circuit.now.r ⊗ of a.circuit.now.c) (c.multiply-3.ensures q e)
    ∙ ap₂ (λ (m n : ℕ). of m ⊗ of n) (sym eR) (sym eC) in
    c.multiply-4.ensures q e ∙ ap₂ (λ (u v : Elem q). (u ⊗ v).word) scale both
