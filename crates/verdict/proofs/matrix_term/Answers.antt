-- `verdict::matrix_term` meets its contract. Assumes nothing.
use Rattle.field.proofs.Words.{of-result}
use Rattle.field.specs.Element.{of, ◌⊗◌}
use Rattle.protocol.specs.Checks.{map_transcript, matrix_left}
use Rattle.protocol.specs.Index.{map_index}
use Rattle.shared.specs.Meanings.{sizes, transcript, index_words}
use mathlib.Core.Path.{ap, ◌∙◌}
use Rattle.verdict.proofs.matrix_term.Goals as goal

pub returns : goal.returns
returns c q Q e is-scale M k v =
    let a = c.args in
    let t = map_transcript (of {q = q}) (transcript a.t) in
    let index = map_index (of {q = q}) (index_words a.index) in
    let left = of-result (matrix_left (sizes a.s) t M index (of a.remainder)) (c.matrix_left-left.ensures q Q e is-scale M k v) in
    c.multiply_three.ensures q e ∙ ap (λ u. (of a.delta ⊗ of a.share ⊗ u).word) left
