-- `varuna::polynomials::judge_evaluation` meets its contract. Assumes nothing.
use Rattle.std.proofs.Common.{sym, ap, Bool, [], ◌∷◌, length}
use borrow.Author.Tests.{lt-leb, lt-ltb, le-ltb}
use Rattle.domain.specs.BabyBear.{baby_bear}
use Rattle.protocol.specs.Refusals.{refuse, list_refusal}
use Rattle.varuna.proofs.CallPolynomials.{evaluation_stops, evaluation_goes}
use Rattle.varuna.proofs.polynomials.judge_evaluation.Goals as goal

pub returns-then-f-gt-MAX_WORDS : goal.returns-then-f-gt-MAX_WORDS
unfolding list_refusal
returns-then-f-gt-MAX_WORDS c = simp (lt-leb _ _ c.if-f-gt-MAX_WORDS.true)

pub returns-in_err-judge_words : goal.returns-in_err-judge_words
returns-in_err-judge_words c =
    evaluation_stops baby_bear (length c.args.f.now) c.args.f.now (c.args.y ∷ []) c.if-f-gt-MAX_WORDS.false
    _ _ c.from_residual.ensures.1 c.in_err-judge_words.ensures

pub returns-then-y-lt-MODULE_PRIME : goal.returns-then-y-lt-MODULE_PRIME
returns-then-y-lt-MODULE_PRIME c =
    evaluation_goes baby_bear (length c.args.f.now) c.args.f.now (c.args.y ∷ []) c.if-f-gt-MAX_WORDS.false c.in_ok-judge_words.ensures
    (ap (λ (t : Bool). refuse 6 (length c.args.f.now) (t ∷ [])) (sym (lt-ltb _ _ c.if-y-lt-MODULE_PRIME.true)))

pub returns-else-y-lt-MODULE_PRIME : goal.returns-else-y-lt-MODULE_PRIME
returns-else-y-lt-MODULE_PRIME c =
    evaluation_goes baby_bear (length c.args.f.now) c.args.f.now (c.args.y ∷ []) c.if-f-gt-MAX_WORDS.false c.in_ok-judge_words.ensures
    (ap (λ (t : Bool). refuse 6 (length c.args.f.now) (t ∷ [])) (sym (le-ltb _ _ c.if-y-lt-MODULE_PRIME.false)))
