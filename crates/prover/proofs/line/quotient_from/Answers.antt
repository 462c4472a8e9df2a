-- `prover::line::quotient_from` meets its contract: the entries below i are filled. Assumes nothing.
use Rattle.std.proofs.Common.{ap, ◌∙◌, List, ℕ, ◌+◌, arith, length, get_or}
use Rattle.field.specs.Element.{Elem, of, ◌⊕◌, ◌⊗◌, words}
use Rattle.field.proofs.Words.{of-result}
use Rattle.domain.proofs.Fill.{fill_none, fill_turn, fill_end}
use Rattle.prover.proofs.line.quotient_from.Invariants.{target, length_target, sum-at}
use Rattle.prover.proofs.line.quotient_from.Goals as goal

pub loop-i-init : goal.loop-i-init
loop-i-init c q e = fill_none _ _

pub loop-i-preserved : goal.loop-i-preserved
loop-i-preserved c q e =
    let a = c.args in
    let l = c.loop-i in
    let n : ℕ = length a.out.now in
    let ws : List ℕ = a.weights.now in
    let hs : List ℕ = a.high.now in
    let m : List ℕ = a.m.now in
    let size = length_target q n a.mask ws hs m (omega arith) (omega arith) (omega arith) (omega arith) in
    fill_turn (words (target q n a.mask ws hs m)) l.out l.i c.add.result (omega arith) (omega arith) (l.invariant q e)
    (sum-at q n a.mask ws hs m (omega arith) (omega arith) l.i
    (c.add.ensures q e
    ∙ ap (λ (x : Elem q). (of (get_or m (n + l.i) 0) ⊕ x).word)
    (of-result _ (c.multiply_add-masked.ensures q e)
    ∙ ap (λ (w : ℕ). of a.mask ⊗ of (get_or ws l.i 0) ⊕ of w) c.word_or_zero.ensures)))

pub returns : goal.returns
returns c q e =
    let a = c.args in
    let l = c.loop-i in
    let n : ℕ = length a.out.now in
    let size = length_target q n a.mask a.weights.now a.high.now a.m.now (omega arith) (omega arith) (omega arith) (omega arith) in
    fill_end (words (target q n a.mask a.weights.now a.high.now a.m.now)) l.out l.i (omega arith) (omega arith)
    (l.invariant q e)
