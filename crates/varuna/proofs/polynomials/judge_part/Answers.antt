-- `varuna::polynomials::judge_part` meets its contract. Assumes nothing.
use Rattle.std.proofs.Common.{[], ◌∷◌, length}
use borrow.Author.Tests.{lt-leb}
use Rattle.domain.specs.BabyBear.{baby_bear}
use Rattle.protocol.specs.Refusals.{list_refusal}
use Rattle.varuna.proofs.CallPolynomials.{evaluation_stops, evaluation_goes}
use Rattle.varuna.proofs.polynomials.judge_part.Goals as goal

pub returns-then-part-gt-MAX_WORDS : goal.returns-then-part-gt-MAX_WORDS
unfolding list_refusal
returns-then-part-gt-MAX_WORDS c = simp (lt-leb _ _ c.if-part-gt-MAX_WORDS.true)

pub returns-in_err-judge_words : goal.returns-in_err-judge_words
returns-in_err-judge_words c =
    let a = c.args in
    evaluation_stops baby_bear (length a.part.now) (a.running.sum ∷ a.running.power ∷ a.y ∷ []) a.part.now
    c.if-part-gt-MAX_WORDS.false _ _ c.from_residual.ensures.1 c.in_err-judge_words.ensures

pub returns : goal.returns
returns c =
    let a = c.args in
    evaluation_goes baby_bear (length a.part.now) (a.running.sum ∷ a.running.power ∷ a.y ∷ []) a.part.now
    c.if-part-gt-MAX_WORDS.false c.in_ok-judge_words.ensures c.judge_words-2.ensures
