-- `prover::witness::public_words_into` meets its contract: the entries below i are filled. Assumes nothing.
use Rattle.std.proofs.Common.{sym, ℕ, ◌*◌, arith, length, get_or}
use Rattle.algebra.proofs.PolynomialLaws.{length-tabulate, get_d_tabulate}
use Rattle.domain.proofs.Fill.{fill_none, fill_turn, fill_end}
use Rattle.prover.proofs.witness.public_words_into.Invariants.{picked}
use Rattle.prover.proofs.witness.public_words_into.Goals as goal

pub loop-i-init : goal.loop-i-init
loop-i-init c = fill_none _ _

pub loop-i-preserved : goal.loop-i-preserved
loop-i-preserved c =
    let a = c.args in
    let l = c.loop-i in
    let n : ℕ = length a.out.now in
    let f : ℕ → ℕ = λ i. get_or a.z.now (i * a.step) 0 in
    fill_turn (picked a.step a.z.now n) l.out l.i (f l.i) (omega arith) (omega (arith, length-tabulate n f)) l.invariant
    (sym (get_d_tabulate n l.i f 0 (omega arith)))

pub returns : goal.returns
returns c =
    let a = c.args in
    let l = c.loop-i in
    let n : ℕ = length a.out.now in
    fill_end (picked a.step a.z.now n) l.out l.i (omega arith)
    (omega (arith, length-tabulate n (λ i. get_or a.z.now (i * a.step) 0))) l.invariant
