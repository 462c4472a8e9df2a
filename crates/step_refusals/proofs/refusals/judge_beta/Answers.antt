-- `step_refusals::refusals::judge_beta` meets its contract: the table of lengths, then the rows of a step with a challenge.
-- Assumes nothing.
use Rattle.std.proofs.Common.{ap, ◌∙◌, [], ◌∷◌}
use Rattle.shared.specs.Meanings.{sizes}
use Rattle.protocol.specs.Session.{beta_refusal}
use Rattle.step_refusals.specs.ChallengeStep.{challenge_step}
use Rattle.step_refusals.proofs.refusals.judge_beta.Goals as goal

pub judge_challenge-requires-clause-n_value : goal.judge_challenge-requires-clause-n_value
judge_challenge-requires-clause-n_value c allowed = allowed.C-size

pub returns : goal.returns
unfolding beta_refusal
returns c q Q e =
    let a = c.args in
    c.judge_challenge.ensures q Q e
    ∙ ap
    (λ l. challenge_step q 3 a.stage (sizes a.s) 1 a.s.c a.beta (a.remainder ∷ a.quotient ∷ [])
    (l.line_remainder ∷ l.line_quotient ∷ []))
    c.message_lengths-table.ensures
