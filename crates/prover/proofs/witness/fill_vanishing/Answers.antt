-- `prover::witness::fill_vanishing` meets its contract: the entries below i are filled. Assumes nothing.
use Rattle.std.proofs.Common.{ℕ, ◌-◌, arith, length}
use Rattle.domain.specs.Polynomial.{vanishing_poly}
use Rattle.domain.proofs.DomainLaws.{length-vanishing_poly}
use Rattle.domain.proofs.Fill.{fill_none, fill_turn, fill_end, length-words}
use Rattle.prover.proofs.witness.fill_vanishing.Invariants.{coefficients}
use Rattle.prover.proofs.witness.fill_vanishing.Goals as goal

pub loop-i-init : goal.loop-i-init
loop-i-init c q e = fill_none _ _

pub loop-i-preserved : goal.loop-i-preserved
loop-i-preserved c q e =
    let l = c.loop-i in
    let n : ℕ = length c.args.out.now - 1 in
    fill_turn (coefficients q n) l.out l.i c.vanishing_coefficient.result (omega arith)
    (omega (arith, length-words (vanishing_poly {q = q} n), length-vanishing_poly q n (omega arith))) (l.invariant q e)
    (c.vanishing_coefficient.ensures q e)

pub returns : goal.returns
returns c q e =
    let l = c.loop-i in
    let n : ℕ = length c.args.out.now - 1 in
    fill_end (coefficients q n) l.out l.i (omega arith)
    (omega (arith, length-words (vanishing_poly {q = q} n), length-vanishing_poly q n (omega arith))) (l.invariant q e)
