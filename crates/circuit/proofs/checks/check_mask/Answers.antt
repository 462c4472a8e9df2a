-- `circuit::checks::check_mask` meets its contract. Assumes nothing.
use mathlib.Core.Path.{sym, ap, ◌∙◌}
use mathlib.Core.Bool.{Bool}
use mathlib.Core.List.{[], ◌∷◌, map}
use Prim.Native.Nat.{ℕ}
use native.Mathlib.Omega.{arith}
use borrow.Author.Tests.{eq-eqb, ne_eqb}
use Rattle.field.specs.Element.{of, 𝟘, equal}
use Rattle.domain.specs.Domain.{sum_over}
use Rattle.domain.specs.Polynomial.{eval}
use Rattle.domain.proofs.SizeLaws.{size_positive}
use Rattle.protocol.specs.Refusals.{refuse, mask_refusal}
use Rattle.circuit.proofs.Mask.{mask_test}
use Rattle.circuit.proofs.checks.check_mask.Goals as goal

pub bounds-m-0 : goal.bounds-m-0
bounds-m-0 c =
    omega (arith, size_positive c.args.c c.requires.c_value.0)

pub bounds-m-half : goal.bounds-m-half
bounds-m-half c =
    omega (arith, size_positive c.args.c c.requires.c_value.0)

pub returns-then-add-eq0 : goal.returns-then-add-eq0
unfolding mask_refusal
returns-then-add-eq0 c q Q e k ec =
    sym
    (ap (λ (n : ℕ). refuse 8 0 (equal (sum_over n (eval (map (of {q = q}) c.args.m.now))) 𝟘 ∷ [])) ec
    ∙ ap (λ (t : Bool). refuse 8 0 (t ∷ []))
    (mask_test Q c.args.c c.requires.c_value.0 c.args.m.now c.requires.c_value.1 c.add.result (c.add.ensures q e)
    ∙ eq-eqb _ _ c.if-add-eq0.true))

pub returns-else-add-eq0 : goal.returns-else-add-eq0
unfolding mask_refusal
returns-else-add-eq0 c q Q e k ec =
    sym
    (ap (λ (n : ℕ). refuse 8 0 (equal (sum_over n (eval (map (of {q = q}) c.args.m.now))) 𝟘 ∷ [])) ec
    ∙ ap (λ (t : Bool). refuse 8 0 (t ∷ []))
    (mask_test Q c.args.c c.requires.c_value.0 c.args.m.now c.requires.c_value.1 c.add.result (c.add.ensures q e)
    ∙ ne_eqb _ _ c.if-add-eq0.false))
