-- `call_refusals::judge_index_contents` meets its contract. Assumes nothing.
use Rattle.std.proofs.Common.{◌∙◌, [], ◌∷◌}
use Rattle.protocol.specs.Refusals.{entry_refusal}
use Rattle.circuit.specs.Judgement.{index_contents_refusal}
use Rattle.shared.proofs.EarlyReturns.{stops, goes_on, last_answer_lem}
use Rattle.circuit.proofs.Parts.{circuit-words}
use Rattle.call_refusals.proofs.judge_index_contents.Goals as goal

pub returns-in_err-check_three_values : goal.returns-in_err-check_three_values
unfolding index_contents_refusal
returns-in_err-check_three_values c q e k er ec matrices =
    stops _ _ c.from_residual.ensures.1 (c.in_err-check_three_values.ensures k matrices ∙ circuit-words q k e) (entry_refusal k ∷ [])

pub returns : goal.returns
unfolding index_contents_refusal
returns c q e k er ec matrices =
    goes_on (c.in_ok-check_three_values.ensures k matrices ∙ circuit-words q k e) (entry_refusal k ∷ [])
    (last_answer_lem (c.check_three_entries.ensures k er ec matrices))
