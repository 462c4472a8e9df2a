-- `field::divide` meets its contract. Assumes nothing.
use Rattle.std.proofs.Common.{◌≡◌, ℕ, ◌-◌, sym, ap, ◌∙◌}
use Rattle.field.specs.Element.{Elem, of, ◌⊗◌}
use Rattle.field.specs.Power.{power, reciprocal}
use Rattle.field.proofs.Words.{of-result}
use Rattle.field.proofs.divide.Goals as goal

pub returns : goal.returns
unfolding reciprocal
returns c q e =
    let a = c.args in
    let divided : of {q = q} c.raise.result ≡ power (of a.b) (q.p - 2) =
    of-result _ (c.raise.ensures q e ∙ ap (λ (n : ℕ). (power (of {q = q} a.b) (n - 2)).word) (sym e)) in
    c.multiply.ensures q e ∙ ap (λ (x : Elem q). (of a.a ⊗ x).word) divided
