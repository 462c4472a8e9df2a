-- `openings::line::assignment_at` meets its contract. Assumes nothing.
use mathlib.Core.Path.{sym, ap, ap₂, ◌∙◌}
use mathlib.Core.List.{List, map}
use Prim.Native.Nat.{ℕ}
use Rattle.field.specs.Element.{Elem, of, ◌⊕◌, ◌⊗◌}
use Rattle.field.proofs.ElementLaws.{add_comm}
use Rattle.field.proofs.Words.{of-result}
use Rattle.domain.specs.Domain.{vanishing}
use Rattle.domain.specs.Polynomial.{eval, interpolate}
use Rattle.domain.proofs.Qualification.{known-qualifies}
use Rattle.protocol.proofs.Witness.{eval-ẑ}
use Rattle.prover.proofs.RowLaws.{known_formed}
use Rattle.openings.proofs.line.assignment_at.Goals as goal

pub returns : goal.returns
returns c q K made k W eC =
    let a = c.args in
    let i = a.input.now in
    let Q = known-qualifies K in
    let z : List (Elem q) = map of i.z.now in
    let β : Elem q = of a.beta in
    let value =
    of-result (eval (interpolate i.circuit.c z) β) (c.interpolated_at-value.ensures q Q K.value i.circuit.c c.requires.c_value β made) in
    let vanished = of-result (vanishing i.circuit.c β) (c.vanishing_value-vanishing.ensures q K.value) in
    c.multiply_add.ensures q K.value
    ∙ ap₂ (λ (u w : Elem q). (of i.mask ⊗ u ⊕ w).word) vanished value
    ∙ ap (λ (n : ℕ). (of i.mask ⊗ vanishing n β ⊕ eval (interpolate n z) β).word) (sym eC)
    ∙ ap (λ (x : Elem q). x.word) (add_comm _ _ ∙ sym (eval-ẑ Q k (known_formed K W) z (of i.mask) β))
