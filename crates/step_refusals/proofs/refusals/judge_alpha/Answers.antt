-- `step_refusals::refusals::judge_alpha` meets its contract: the table of lengths, then the rows of a step with a challenge.
-- Assumes nothing.
use Rattle.std.proofs.Common.{ap, ◌∙◌, [], ◌∷◌}
use Rattle.shared.specs.Meanings.{sizes}
use Rattle.protocol.specs.Session.{alpha_refusal}
use Rattle.step_refusals.specs.ChallengeStep.{challenge_step}
use Rattle.step_refusals.proofs.refusals.judge_alpha.Goals as goal

pub judge_challenge-requires-clause-n_value : goal.judge_challenge-requires-clause-n_value
judge_challenge-requires-clause-n_value c allowed = allowed.R-size

pub returns : goal.returns
unfolding alpha_refusal
returns c q Q e =
    let a = c.args in
    c.judge_challenge.ensures q Q e
    ∙ ap
    (λ l. challenge_step q 1 a.stage (sizes a.s) 0 a.s.r a.alpha (a.witness ∷ a.mask ∷ a.quotient ∷ [])
    (l.witness ∷ l.mask ∷ l.row_quotient ∷ []))
    c.message_lengths-table.ensures
