-- `domain::interpolated_at` meets its contract. Assumes nothing.
use Rattle.std.proofs.Common.{ℕ, map, sym, ap, ◌∙◌, arith}
use Rattle.std.proofs.lemmas.List.{length_push}
use Rattle.std.proofs.lemmas.Slice.Zip.{zip_turn, zip_end}
use Rattle.algebra.specs.Sum as sums
use Rattle.field.specs.Element.{Elem, of}
use Rattle.field.proofs.ElementLaws.{prime_ring}
use Rattle.domain.proofs.Membership.{zero_word}
use Rattle.domain.proofs.LagrangeSums.{term, interpolate-sum, made_length, next_term}
use Rattle.domain.proofs.interpolated_at.Goals as goal

pub loop-value-init : goal.loop-value-init
loop-value-init c q e n y made = sym (zero_word q)

pub loop-value-preserved : goal.loop-value-preserved
loop-value-preserved c q e n y made =
    let l = c.loop-value in
    let (_, below, value, weight) =
    zip_turn c.args.values.now c.args.weights.now l.yielded c.into_iter-value-iterator.result _ c.next.new.self _ (cc) (cc)
    l.yielded_by _ c.in-Some.is c.next.ensures.steps in
    simp length_push
    (next_term n y c.args.values.now c.args.weights.now made _ l.sum c.multiply_add-sum.result below
    (cc (c.multiply_add-sum.ensures q e, value 0, weight 0)) (l.invariant q e n y made))

pub returns : goal.returns
returns c q Q e n s y made =
    let l = c.loop-value in
    let vs = c.args.values.now in
    let ended =
    zip_end vs c.args.weights.now l.yielded c.into_iter-value-iterator.result _ c.next.new.self _ (cc) (cc) l.yielded_by c.in-None.is
    c.next.ensures.steps in
    l.invariant q e n y made
    ∙ ap (λ (k : ℕ). (sums.sum (prime_ring q) k (term n (map of vs) y)).word)
    (omega (arith, ended, made_length n y vs c.args.weights.now made))
    ∙ ap (λ (x : Elem q). x.word) (interpolate-sum Q n s (map of vs) y)
