-- `verdict::verdict` meets its contract. Where a check reads no x, or no openings of index polynomials, [] stands for them. Assumes
-- nothing.
use Rattle.std.proofs.Common.{◌≡◌, sym, ap₂, ◌∙◌, []}
use Rattle.algebra.proofs.Choice.{pick_true, pick-false}
use Rattle.domain.specs.Domain.{vanishing}
use Rattle.field.proofs.Words.{of-result}
use Rattle.field.specs.Element.{of, ◌⊗◌}
use Rattle.field.specs.Prime.{Prime}
use Rattle.protocol.specs.Checks.{verdict}
use Rattle.shared.specs.Meanings.{sizes}
use Rattle.protocol.proofs.AllowedSizes.{allowed}
use Rattle.verdict.specs.Scale.{scale_word}
use Rattle.verdict.proofs.verdict.Goals as goal
use Rattle.verdict.proofs.verdict.Goals.{After-multiply-scale}

pub returns-then-not-row_holds : goal.returns-then-not-row_holds
unfolding verdict
returns-then-not-row_holds c q K Q =
    let row = c.row_holds.ensures q K.value (sizes c.args.s) [] [] (c.vanishing_value-rows.ensures q K.value) in
    sym (pick-false _ _ (sym row ∙ c.if-not-row_holds.true))

pub line_holds-requires : goal.line_holds-requires
line_holds-requires c =
    let W = allowed (sizes c.args.s) c.requires.s_value in
    record {
      modulus = (c.requires.lt_p, c.requires.outside_domain.over);
      x_value = W.X-size;
      x_len = c.requires.x_len;
      c_value = W.C-size;
    }

pub returns-then-not-line_holds : goal.returns-then-not-line_holds
unfolding verdict
returns-then-not-line_holds c q K Q =
    let row = c.row_holds.ensures q K.value (sizes c.args.s) [] [] (c.vanishing_value-rows.ensures q K.value) in
    let line = c.line_holds.ensures q K Q [] (c.vanishing_value-columns.ensures q K.value) in
    sym (pick_true _ _ (sym row ∙ c.if-not-row_holds.false) ∙ pick-false _ _ (sym line ∙ c.if-not-line_holds.true))

-- v_R(α) v_C(β)
scaled : (c : After-multiply-scale) (q : Prime) → let a = c.args in
    q.p ≡ a.p → c.multiply-scale.result ≡ scale_word q (sizes a.s) a.t.alpha a.t.beta
scaled c q e =
    let a = c.args in
    c.multiply-scale.ensures q e
    ∙ ap₂ (λ x y. (x ⊗ y).word) (of-result (vanishing a.s.r (of {q = q} a.t.alpha)) (c.vanishing_value-rows.ensures q e))
    (of-result (vanishing a.s.c (of {q = q} a.t.beta)) (c.vanishing_value-columns.ensures q e))

pub returns-then-not-matrix_holds : goal.returns-then-not-matrix_holds
unfolding verdict
returns-then-not-matrix_holds c q K Q =
    let row = c.row_holds.ensures q K.value (sizes c.args.s) [] [] (c.vanishing_value-rows.ensures q K.value) in
    let line = c.line_holds.ensures q K Q [] (c.vanishing_value-columns.ensures q K.value) in
    let m = (goal.at.returns-then-not-matrix_holds c).After-multiply-scale in
    let matrix = c.matrix_holds.ensures q Q K.value (scaled m q K.value) [] in
    sym
    (pick_true _ _ (sym row ∙ c.if-not-row_holds.false) ∙ pick_true _ _ (sym line ∙ c.if-not-line_holds.false)
    ∙ pick-false _ _ (sym matrix ∙ c.if-not-matrix_holds.true))

pub returns : goal.returns
unfolding verdict
returns c q K Q =
    let row = c.row_holds.ensures q K.value (sizes c.args.s) [] [] (c.vanishing_value-rows.ensures q K.value) in
    let line = c.line_holds.ensures q K Q [] (c.vanishing_value-columns.ensures q K.value) in
    let matrix = c.matrix_holds.ensures q Q K.value (scaled (goal.at.returns c).After-multiply-scale q K.value) [] in
    sym
    (pick_true _ _ (sym row ∙ c.if-not-row_holds.false) ∙ pick_true _ _ (sym line ∙ c.if-not-line_holds.false)
    ∙ pick_true _ _ (sym matrix ∙ c.if-not-matrix_holds.false))
