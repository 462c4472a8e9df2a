-- `prover::line::remainder_from` meets its contract: the entries below i are filled. Assumes nothing.
use mathlib.Core.List.{tail}
use Rattle.std.proofs.Common.{ap, ◌∙◌, List, ℕ, ◌+◌, arith, get_or}
use Rattle.field.specs.Element.{Elem, of, ◌⊕◌, words}
use Rattle.field.proofs.Words.{of-result}
use Rattle.domain.proofs.Fill.{fill_none, fill_turn, fill_end}
use Rattle.prover.proofs.line.remainder_from.Invariants.{whole, length_target, sum-at}
use Rattle.prover.proofs.line.remainder_from.Goals as goal

pub loop-i-init : goal.loop-i-init
loop-i-init c q e = fill_none _ _

pub loop-i-preserved : goal.loop-i-preserved
loop-i-preserved c q e =
    let l = c.loop-i in
    let rest : List ℕ = c.args.rest.now in
    let m : List ℕ = c.args.m.now in
    fill_turn (words (tail (whole q rest m))) l.out l.i c.add-in-loop-i.result (omega arith) (omega (arith, length_target q rest m))
    (l.invariant q e)
    (sum-at q rest m (omega arith) l.i (omega arith)
    (c.add-in-loop-i.ensures q e
    ∙ ap (λ (x : Elem q). (x ⊕ of (get_or rest (l.i + 1) 0)).word) (of-result _ (c.add.ensures q e))))

pub returns : goal.returns
returns c q e =
    let a = c.args in
    let l = c.loop-i in
    fill_end (words (tail (whole q a.rest.now a.m.now))) l.out l.i (omega arith)
    (omega (arith, length_target q a.rest.now a.m.now)) (l.invariant q e)
