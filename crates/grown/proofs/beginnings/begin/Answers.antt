-- `grown::beginnings::begin` meets its contract: the sizes are judged, then put before zeros. Assumes nothing.
use Rattle.std.proofs.Common.{◌∙◌, length}
use Rattle.protocol.specs.Grown.{stored, empty_circuit, begin_call}
use Rattle.shared.proofs.LentAnswers.{lent_exits, lent-fills}
use Rattle.grown.proofs.BeginningLaws.{nothing_stored}
use Rattle.grown.proofs.beginnings.begin.Goals as goal

pub returns-in_err-check_sizes : goal.returns-in_err-check_sizes
unfolding begin_call
returns-in_err-check_sizes c =
    let a = c.args in
    lent_exits (stored (empty_circuit a.r a.c a.x)) a.circuit.now _ _ c.from_residual.ensures.1 c.in_err-check_sizes.ensures

pub returns : goal.returns
unfolding begin_call
returns c =
    let a = c.args in
    lent-fills (stored (empty_circuit a.r a.c a.x)) a.circuit.now c.in_ok-check_sizes.ensures
    (c.copy_words.ensures ∙ nothing_stored a.r a.c a.x (length a.circuit.now) c.requires)
