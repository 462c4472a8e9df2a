-- `varuna::arithmetic::inverse` meets its contract. Assumes nothing.
use Rattle.std.proofs.Common.{◌≡◌, refl, ap, ◌∙◌, ℕ}
use Rattle.std.specs.Prelude.{Option, Some, None}
use Rattle.std.specs.Option.{ok_or}
use mathlib.Core.Option as definition
use Rattle.field.specs.Element.{of, word_of}
use Rattle.field.specs.Power.{inverse}
use Rattle.field.specs.Meanings.{inverse_meaning}
use Rattle.domain.specs.BabyBear.{baby_bear}
use Rattle.shared.specs.declared.Refusal as declared
use Rattle.shared.specs.declared.Row.TheVariants as row
use Rattle.shared.proofs.EarlyReturns.{exits_as}
use Rattle.protocol.specs.Refusals.{Refusal, Outcome, after, inverse_outcome}
use Rattle.protocol.specs.Calls.{inverse_call}
use Rattle.varuna.specs.Answers.{word_meaning}
use Rattle.varuna.proofs.arithmetic.inverse.Goals as goal

-- what is answered where the word is a field word
abbrev answer : ℕ → Outcome ℕ
answer a = inverse_outcome (definition.map word_of (inverse (of {q = baby_bear} a)))

by_cases : (i : Option ℕ) → word_meaning (ok_or {E = declared.Refusal} i (row.Inverse, 0)) ≡ inverse_outcome (inverse_meaning i)
by_cases None = refl
by_cases (Some w) = refl

pub returns-in_err-check_word : goal.returns-in_err-check_word
unfolding inverse_call
returns-in_err-check_word c =
    exits_as _ _ _ c.from_residual.ensures.1
    ∙ ap (λ (o : definition.Option Refusal). after o (answer c.args.a)) c.in_err-check_word.ensures

pub returns : goal.returns
unfolding inverse_call
returns c =
    ap word_meaning c.ok_or.ensures.value ∙ by_cases c.invert.result ∙ ap inverse_outcome (c.invert.ensures baby_bear refl)
    ∙ ap (λ (o : definition.Option Refusal). after o (answer c.args.a)) c.in_ok-check_word.ensures
