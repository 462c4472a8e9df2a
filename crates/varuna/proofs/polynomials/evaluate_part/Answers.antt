-- `varuna::polynomials::evaluate_part` meets its contract. Assumes nothing.
use Rattle.std.proofs.Common.{refl, sym, ◌∷◌, length}
use Rattle.domain.specs.BabyBear.{baby_bear}
use Rattle.protocol.specs.Calls.{evaluate_part_call}
use Rattle.varuna.proofs.AnswerLaws.{refuses, done}
use Rattle.varuna.proofs.CallPolynomials.{evaluation_free}
use Rattle.varuna.proofs.polynomials.evaluate_part.Goals as goal

pub returns-in_err-judge_part : goal.returns-in_err-judge_part
unfolding evaluate_part_call
returns-in_err-judge_part c = refuses _ _ _ c.from_residual.ensures.1 c.in_err-judge_part.ensures _

pub returns : goal.returns
unfolding evaluate_part_call
returns c =
    let a = c.args in
    let words = a.running.sum ∷ a.running.power ∷ a.y ∷ a.part.now in
    let below = evaluation_free baby_bear (length a.part.now) words (sym c.in_ok-judge_part.ensures) in
    done _ c.in_ok-judge_part.ensures (c.evaluate_part.ensures baby_bear refl (below.0, below.1.0))
