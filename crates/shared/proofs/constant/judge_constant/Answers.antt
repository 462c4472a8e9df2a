-- `shared::constant::judge_constant` meets its contract. Assumes nothing.
use mathlib.Core.Path.{sym, ap, ◌∙◌}
use mathlib.Core.List.{[], ◌∷◌}
use Rattle.protocol.specs.Refusals.{refuse, constant_refusal}
use Rattle.shared.proofs.constant.judge_constant.Goals as goal

pub returns-then-begins_with_one : goal.returns-then-begins_with_one
unfolding constant_refusal
returns-then-begins_with_one c = ap (λ t. refuse 13 0 (t ∷ [])) (sym c.if-begins_with_one.true ∙ c.begins_with_one.ensures)

pub returns-else-begins_with_one : goal.returns-else-begins_with_one
unfolding constant_refusal
returns-else-begins_with_one c = ap (λ t. refuse 13 0 (t ∷ [])) (sym c.if-begins_with_one.false ∙ c.begins_with_one.ensures)
