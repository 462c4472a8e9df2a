-- `job::judge_head` meets its contract. Assumes nothing.
use Rattle.std.proofs.Common.{[], ◌∷◌, ℕ, leb, get_or}
use Rattle.domain.specs.Size.{max_size}
use Rattle.protocol.specs.Refusals.{list_refusal}
use Rattle.shared.proofs.EarlyReturns.{stops, goes_on, last_answer_lem}
use Rattle.job.specs.JobText.{head_refusal}
use Rattle.job.proofs.judge_head.Goals as goal

pub returns-in_err-check_sizes : goal.returns-in_err-check_sizes
unfolding head_refusal
returns-in_err-check_sizes c =
    let w : ℕ → ℕ = λ k. get_or c.args.words.now k 0 in
    stops _ _ c.from_residual.ensures.1 c.in_err-check_sizes.ensures
    (list_refusal (leb (w 3) max_size ∷ leb (w 4) max_size ∷ leb (w 5) max_size ∷ []) ∷ [])

pub returns : goal.returns
unfolding head_refusal
returns c = goes_on c.in_ok-check_sizes.ensures _ (last_answer_lem c.check_counts.ensures)
