-- `varuna::arithmetic::check_pair` meets its contract: the first word, then the second. Assumes nothing.
use Rattle.std.proofs.Common.{◌≡◌, refl, sym, ◌∙◌, List, [], ◌∷◌, ℕ, ltb}
use mathlib.Core.Option.{Option}
use borrow.Author.Tests.{lt-ltb, le-ltb}
use Rattle.domain.specs.BabyBear.{baby_bear}
use Rattle.protocol.specs.Refusals.{Refusal, first, refuse, word_refusal}
use Rattle.protocol.proofs.Rows.{refuse-map_append}
use Rattle.shared.proofs.EarlyReturns.{stops, goes_on, fails_first, passes}
use Rattle.varuna.proofs.arithmetic.check_pair.Goals as goal

after : ℕ → List (Option Refusal)
after b = refuse 6 1 (ltb b baby_bear.p ∷ []) ∷ []

in_parts : (a b : ℕ) → first (word_refusal baby_bear (a ∷ []) ∷ after b) ≡ word_refusal baby_bear (a ∷ b ∷ [])
unfolding word_refusal after
in_parts a b = sym (refuse-map_append 6 0 (λ w. ltb w baby_bear.p) (a ∷ []) (b ∷ []))

pub returns-in_err-check_word : goal.returns-in_err-check_word
returns-in_err-check_word c =
    stops _ _ c.from_residual.ensures.1 c.in_err-check_word.ensures (after c.args.b) ∙ in_parts c.args.a c.args.b

pub returns-then-b-lt-MODULE_PRIME : goal.returns-then-b-lt-MODULE_PRIME
unfolding after
returns-then-b-lt-MODULE_PRIME c =
    goes_on c.in_ok-check_word.ensures (after c.args.b) (passes 6 1 [] (lt-ltb _ _ c.if-b-lt-MODULE_PRIME.true) refl)
    ∙ in_parts c.args.a c.args.b

pub returns-else-b-lt-MODULE_PRIME : goal.returns-else-b-lt-MODULE_PRIME
unfolding after
returns-else-b-lt-MODULE_PRIME c =
    goes_on c.in_ok-check_word.ensures (after c.args.b) (fails_first 6 1 [] (le-ltb _ _ c.if-b-lt-MODULE_PRIME.false))
    ∙ in_parts c.args.a c.args.b
