-- `varuna::polynomials::judge_transform` meets its contract. Assumes nothing.
use mathlib.Core.Path.{sym, ◌∙◌}
use borrow.Author.Tests.{eq-eqb, ne_eqb}
use Rattle.protocol.specs.Refusals.{size_refusal, list_refusal, word_refusal}
use Rattle.varuna.proofs.CallPolynomials.{transform_goes}
use Rattle.varuna.proofs.polynomials.judge_transform.Goals as goal

pub returns-then-not-is_size : goal.returns-then-not-is_size
unfolding size_refusal
returns-then-not-is_size c = simp (sym c.is_size.ensures ∙ c.if-not-is_size.true)

pub returns-then-words-n : goal.returns-then-words-n
unfolding size_refusal list_refusal
returns-then-words-n c = simp (sym c.is_size.ensures ∙ c.if-not-is_size.false, ne_eqb _ _ c.if-words-n.true)

pub returns-then-lent-n : goal.returns-then-lent-n
unfolding size_refusal list_refusal
returns-then-lent-n c =
    simp (
      sym c.is_size.ensures ∙ c.if-not-is_size.false,
      eq-eqb _ _ c.if-words-n.false,
      ne_eqb _ _ c.if-lent-n.true,
    )

pub returns : goal.returns
unfolding word_refusal
returns c =
    c.judge_words.ensures
    ∙ transform_goes _ _ _ _ (sym c.is_size.ensures ∙ c.if-not-is_size.false)
    c.if-words-n.false c.if-lent-n.false
