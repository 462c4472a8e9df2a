-- `openings::matrix::share_of` meets its contract. Assumes nothing.
use mathlib.Core.Path.{ap, ◌∙◌}
use Prim.Native.Nat.{ℕ}
use Rattle.field.specs.Element.{Elem, of, ◌⊗◌}
use Rattle.field.proofs.Words.{of-result}
use Rattle.openings.proofs.matrix.share_of.Goals as goal

pub returns : goal.returns
returns c q e =
    let a = c.args in
    c.multiply-2.ensures q e
    ∙ ap (λ (v : Elem q). (v ⊗ of a.quotient).word)
    (of-result (of {q = q} a.delta ⊗ of _) (c.multiply.ensures q e)
    ∙ ap (λ (m : ℕ). of a.delta ⊗ of m) c.size_of.ensures)
