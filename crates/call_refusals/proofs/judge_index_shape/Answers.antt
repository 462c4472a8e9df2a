-- `call_refusals::judge_index_shape` meets its contract. Assumes nothing.
use Rattle.std.proofs.Common.{[], ◌∷◌}
use Rattle.protocol.specs.Refusals.{list_refusal}
use Rattle.protocol.specs.Calls.{entry_list_tests}
use Rattle.circuit.specs.Given.{circuit_words}
use Rattle.circuit.specs.Judgement.{index_shape_refusal}
use Rattle.shared.proofs.EarlyReturns.{stops, goes_on, last_answer_lem}
use Rattle.call_refusals.proofs.judge_index_shape.Goals as goal

pub returns-in_err-check_sizes : goal.returns-in_err-check_sizes
unfolding index_shape_refusal
returns-in_err-check_sizes c =
    stops _ _ c.from_residual.ensures.1 c.in_err-check_sizes.ensures (list_refusal (entry_list_tests (circuit_words c.args.circuit.now)) ∷ [])

pub returns : goal.returns
unfolding index_shape_refusal list_refusal entry_list_tests
returns c =
    goes_on c.in_ok-check_sizes.ensures (list_refusal (entry_list_tests (circuit_words c.args.circuit.now)) ∷ [])
    (last_answer_lem c.check_entry_lists.ensures)
