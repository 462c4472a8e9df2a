-- `step_refusals::refusals::judge_turn` meets its contract. Assumes nothing.
use Rattle.std.proofs.Common.{sym, ap, ◌∙◌, [], ◌∷◌}
use Rattle.protocol.specs.Refusals.{refuse, turn_refusal}
use Rattle.step_refusals.proofs.refusals.judge_turn.Goals as goal

pub returns-then-in_turn : goal.returns-then-in_turn
unfolding turn_refusal
returns-then-in_turn c = ap (λ t. refuse 1 0 (t ∷ [])) (sym c.if-in_turn.true ∙ c.in_turn.ensures)

pub returns-else-in_turn : goal.returns-else-in_turn
unfolding turn_refusal
returns-else-in_turn c = ap (λ t. refuse 1 0 (t ∷ [])) (sym c.if-in_turn.false ∙ c.in_turn.ensures)
