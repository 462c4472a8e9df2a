-- `varuna::polynomials::evaluate_on_domain` meets its contract. Assumes nothing.
use mathlib.Core.Path.{refl, sym, ap, ◌∙◌}
use mathlib.Core.List.{map}
use Prim.Native.Nat.{ℕ}
use lib.Dec.{lit<}
use lib.ListN.{length}
use Rattle.field.specs.Element.{of, words}
use Rattle.domain.specs.BabyBear.{baby_bear}
use Rattle.domain.specs.Polynomial.{values_on}
use Rattle.domain.proofs.Qualification.{baby_bear-qualifies}
use Rattle.protocol.specs.Calls.{evaluate_on_domain_call}
use Rattle.protocol.proofs.FastInterpolation.{LetThrough, transform_free}
use Rattle.varuna.proofs.AnswerLaws.{fill_refuses, fill_done}
use Rattle.varuna.proofs.CallPolynomials.{transform_asked, transform-root}
use Rattle.varuna.proofs.polynomials.evaluate_on_domain.Goals as goal
use Rattle.varuna.proofs.polynomials.evaluate_on_domain.Goals.{In_ok-judge_transform}

-- nothing was refused
let_through : (c : In_ok-judge_transform) → let a = c.args in LetThrough baby_bear a.n a.f.now (length a.out.now)
let_through c = transform_free baby_bear c.args.n (length c.args.out.now) c.args.f.now (sym c.in_ok-judge_transform.ensures)

pub root_of-root-requires : goal.root_of-root-requires
root_of-root-requires c = (let_through c).size

pub evaluate_into-requires : goal.evaluate_into-requires
evaluate_into-requires c = record {
  lt_p = lit< tt;
  out_len = transform_asked (let_through (goal.at.evaluate_into-requires c).In_ok-judge_transform);
}

pub returns-in_err-judge_transform : goal.returns-in_err-judge_transform
unfolding evaluate_on_domain_call
returns-in_err-judge_transform c = fill_refuses c.args.out.now _ _ c.from_residual.ensures.1 c.in_err-judge_transform.ensures _

pub returns : goal.returns
unfolding evaluate_on_domain_call
returns c =
    let t = let_through (goal.at.returns c).In_ok-judge_transform in
    fill_done c.args.out.now c.in_ok-judge_transform.ensures
    (c.evaluate_into.ensures baby_bear baby_bear-qualifies refl
    (transform-root t (c.root_of-root.ensures baby_bear (record { is_module = refl; value = refl })))
    ∙ ap (λ (n : ℕ). words (values_on n (map (of {q = baby_bear}) c.args.f.now))) t.listed)
