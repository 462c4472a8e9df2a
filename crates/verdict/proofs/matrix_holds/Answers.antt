-- `verdict::matrix_holds` meets its contract. Assumes nothing.
use Rattle.domain.specs.Domain.{vanishing}
use Rattle.field.proofs.Words.{of-result}
use Rattle.field.specs.Element.{Elem, of, ◌⊕◌, ◌⊗◌}
use Rattle.protocol.specs.Checks.{map_transcript, map_openings, selector, matrix_left, joined_left, joined_right}
use Rattle.protocol.specs.Circuit.{largest}
use Rattle.shared.specs.Meanings.{sizes, transcript, openings}
use Rattle.protocol.specs.Three.{MatrixName, A, B, C, at}
use Rattle.protocol.proofs.AllowedSizes.{allowed}
use Rattle.std.proofs.Common.{eqb, refl, ap, ap₂, ◌∙◌}
use Rattle.verdict.proofs.matrix_holds.Goals as goal

-- the size of one matrix's part is a size
pub matrix_term-a-requires-clause-size_value : goal.matrix_term-a-requires-clause-size_value
matrix_term-a-requires-clause-size_value c = (allowed (sizes c.args.s) c.requires.s_value).K-size A

pub matrix_term-b-requires-clause-size_value : goal.matrix_term-b-requires-clause-size_value
matrix_term-b-requires-clause-size_value c = (allowed (sizes c.args.s) c.requires.s_value).K-size B

pub matrix_term-c-requires-clause-size_value : goal.matrix_term-c-requires-clause-size_value
matrix_term-c-requires-clause-size_value c = (allowed (sizes c.args.s) c.requires.s_value).K-size C

pub returns : goal.returns
unfolding joined_left joined_right
returns c q Q e is-scale x =
    let a = c.args in
    let s = sizes a.s in
    let t = map_transcript (of {q = q}) (transcript a.t) in
    let o = map_openings (of {q = q}) (openings a.o a.index) in
    let whole = c.vanishing_value-whole.ensures q e ∙ ap (λ k. (vanishing k t.γ).word) c.largest.ensures in
    let shares = c.selectors-share.ensures q Q e whole in
    let left : MatrixName → Elem q = λ M. matrix_left s t M (at o.index M) (at o.matrix_remainders M) in
    let term : MatrixName → Elem q = λ M. at t.δ M ⊗ selector s M t.γ ⊗ left M in
    let first = of-result (term A)
    (c.matrix_term-a.ensures q Q e is-scale A refl refl
    ∙ ap (λ u. (t.δ.a ⊗ u ⊗ left A).word) (of-result (selector s A t.γ) (ap (λ w. w.a) shares))) in
    let second = of-result (term B)
    (c.matrix_term-b.ensures q Q e is-scale B refl refl
    ∙ ap (λ u. (t.δ.b ⊗ u ⊗ left B).word) (of-result (selector s B t.γ) (ap (λ w. w.b) shares))) in
    let third = of-result (term C)
    (c.matrix_term-c.ensures q Q e is-scale C refl refl
    ∙ ap (λ u. (t.δ.c ⊗ u ⊗ left C).word) (of-result (selector s C t.γ) (ap (λ w. w.c) shares))) in
    let two = of-result (of {q = q} _ ⊕ of _) (c.add.ensures q e) ∙ ap₂ ◌⊕◌ first second in
    let sum = c.add-left.ensures q e ∙ ap₂ (λ u v. (u ⊕ v).word) two third in
    let vanish = of-result (vanishing (largest s.|K|) t.γ) whole in
    let right = c.multiply.ensures q e ∙ ap (λ v. (o.joined_quotient ⊗ v).word) vanish in
    ap₂ eqb sum right
