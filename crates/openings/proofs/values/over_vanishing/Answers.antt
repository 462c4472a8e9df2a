-- `openings::values::over_vanishing` meets its contract: v_D(y) is not 0 for y outside the domain. Assumes nothing.
use mathlib.Core.Path.{◌≡◌, ap₂, ◌∙◌}
use Rattle.field.specs.Prime.{Prime}
use Rattle.field.specs.Element.{Elem, of}
use Rattle.field.specs.Power.{◌⊘◌}
use Rattle.field.proofs.Words.{of-result}
use Rattle.domain.specs.Domain.{vanishing}
use Rattle.domain.proofs.Divisors.{vanishing-word-not-zero}
use Rattle.openings.proofs.OutsideLaws.{outside_here, exact_quotient}
use Rattle.openings.proofs.values.over_vanishing.Goals as goal
use Rattle.openings.proofs.values.over_vanishing.Goals.{After-vanishing_value}

-- the divisor is v_D(y)
divisor : (c : After-vanishing_value) (q : Prime) → let a = c.args in
    q.p ≡ a.p → of {q = q} c.vanishing_value.result ≡ vanishing a.n (of a.y)
divisor c q e =
    let a = c.args in
    of-result (vanishing a.n (of a.y)) (c.vanishing_value.ensures q e)

pub divide-requires : goal.divide-requires
divide-requires c =
    record {
      lt_p = c.requires.lt_p;
      b_nonzero = vanishing-word-not-zero c.requires.outside_domain c.requires.n_value _ c.vanishing_value.ensures;
    }

pub returns : goal.returns
returns c q K h e =
    let a = c.args in
    c.divide.ensures q K.value ∙ ap₂ (λ (u v : Elem q). (u ⊘ v).word) e (divisor (goal.at.returns c).After-vanishing_value q K.value)
    ∙ exact_quotient a.n c.requires.n_value K a.y (outside_here K c.requires.outside_domain) h
