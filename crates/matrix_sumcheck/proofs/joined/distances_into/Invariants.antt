-- What the loop of `matrix_sumcheck::joined::distances_into` keeps. Assumes nothing.
use Rattle.std.proofs.Common.{◌≡◌, length}
use Rattle.field.specs.Prime.{Prime}
use Rattle.field.specs.Element.{of, words}
use Rattle.domain.specs.Domain.{element}
use Rattle.domain.specs.Known.{Known}
use Rattle.domain.proofs.Fill.{Filled}
use Rattle.matrix_sumcheck.specs.MatrixGiven.{distances}
use Rattle.matrix_sumcheck.proofs.joined.distances_into.Given as goal

abbrev pub invariant-loop-word : goal.invariant-loop-word
invariant-loop-word l =
    (q : Prime) → Known q l.p → (l.power ≡ (element {q = q} (length l.initial.out) l.word-index).word)
    × Filled (words (distances {q = q} (length l.initial.out) (of l.y))) l.out l.word-index
