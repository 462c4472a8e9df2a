-- `verdict::line_holds` meets its contract. Assumes nothing.
use Rattle.field.proofs.Words.{of-result}
use Rattle.field.specs.Element.{Elem, of, ◌⊕◌, ◌⊗◌}
use Rattle.protocol.specs.Checks.{map_transcript, weighted, assignment_value, line_left, line_right}
use Rattle.shared.specs.Meanings.{sizes, transcript}
use lib.Dec.{eqb}
use mathlib.Core.List.{List, map}
use mathlib.Core.Path.{ap, ap₂, ◌∙◌}
use Rattle.verdict.proofs.line_holds.Goals as goal

pub returns : goal.returns
unfolding line_left
returns c q K Q index is-columns =
    let a = c.args in
    let s = sizes a.s in
    let t = map_transcript (of {q = q}) (transcript a.t) in
    let values = of-result (weighted t.η t.values) (c.weighted_sum-values.ensures q K.value) in
    let sum = of-result (weighted t.η t.sums) (c.weighted_sum-sum.ensures q K.value) in
    let x : List (Elem q) = map of a.x.now in
    let z = of-result (assignment_value s x t.β (of a.o.witness)) (c.assignment_value-z.ensures q K Q) in
    let product = of-result (of {q = q} _ ⊗ of _) (c.multiply.ensures q K.value) ∙ ap₂ ◌⊗◌ values z in
    let left = c.add-left.ensures q K.value ∙ ap (λ v. (of a.o.mask ⊕ v).word) product in
    let g1 : Elem q = of a.o.line_remainder in
    let h1 : Elem q = of a.o.line_quotient in
    let right = c.line_right.ensures q Q K.value is-columns ∙ ap (λ v. (line_right s t.β v g1 h1).word) sum in
    ap₂ eqb left right
