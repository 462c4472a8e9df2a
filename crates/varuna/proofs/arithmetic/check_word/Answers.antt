-- `varuna::arithmetic::check_word` meets its contract. Assumes nothing.
use mathlib.Core.Path.{sym, ap}
use mathlib.Core.Bool.{Bool}
use mathlib.Core.List.{[], ◌∷◌}
use borrow.Author.Tests.{lt-ltb, le-ltb}
use Rattle.protocol.specs.Refusals.{refuse, word_refusal}
use Rattle.varuna.proofs.arithmetic.check_word.Goals as goal

pub returns-then-a-lt-MODULE_PRIME : goal.returns-then-a-lt-MODULE_PRIME
unfolding word_refusal
returns-then-a-lt-MODULE_PRIME c = sym (ap (λ (t : Bool). refuse 6 0 (t ∷ [])) (lt-ltb _ _ c.if-a-lt-MODULE_PRIME.true))

pub returns-else-a-lt-MODULE_PRIME : goal.returns-else-a-lt-MODULE_PRIME
unfolding word_refusal
returns-else-a-lt-MODULE_PRIME c = sym (ap (λ (t : Bool). refuse 6 0 (t ∷ [])) (le-ltb _ _ c.if-a-lt-MODULE_PRIME.false))
