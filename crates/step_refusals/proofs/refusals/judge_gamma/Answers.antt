-- `step_refusals::refusals::judge_gamma` meets its contract: the table of lengths and |K|, then the rows of a step with a challenge.
-- Assumes nothing.
use Rattle.std.proofs.Common.{ap₂, ap, ◌∙◌, [], ◌∷◌}
use Rattle.domain.specs.Size.{is_size}
use Rattle.shared.specs.Meanings.{sizes}
use Rattle.protocol.specs.Session.{gamma_refusal}
use Rattle.protocol.proofs.AllowedSizes.{largest_size}
use Rattle.step_refusals.specs.ChallengeStep.{challenge_step}
use Rattle.step_refusals.proofs.refusals.judge_gamma.Goals as goal

pub judge_challenge-requires-clause-n_value : goal.judge_challenge-requires-clause-n_value
judge_challenge-requires-clause-n_value c allowed = ap is_size c.largest.ensures ∙ largest_size (sizes c.args.s) allowed

pub returns : goal.returns
unfolding gamma_refusal
returns c q Q e =
    let a = c.args in
    c.judge_challenge.ensures q Q e
    ∙ ap₂ (λ n l. challenge_step q 5 a.stage (sizes a.s) 2 n a.gamma (a.quotient ∷ []) (l.joined_quotient ∷ []))
    c.largest.ensures c.message_lengths.ensures
