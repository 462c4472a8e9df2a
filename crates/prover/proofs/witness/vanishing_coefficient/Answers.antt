-- `prover::witness::vanishing_coefficient` meets its contract. Assumes nothing.
use mathlib.Core.Path.{sym, ap, ◌∙◌}
use Prim.Native.Nat.{ℕ}
use native.Mathlib.Omega.{arith}
use lib.ListN.{get_or}
use Rattle.field.specs.Element.{words}
use Rattle.domain.specs.Polynomial.{vanishing_poly}
use Rattle.prover.proofs.WitnessLaws.{vanishing-first, vanishing_last, vanishing-between}
use Rattle.prover.proofs.witness.vanishing_coefficient.Goals as goal

pub returns-then-i-eq0 : goal.returns-then-i-eq0
returns-then-i-eq0 c q e =
    let n : ℕ = c.args.n in
    vanishing-first q n e ∙ ap (λ (i : ℕ). get_or (words (vanishing_poly {q = q} n)) i 0) (sym c.if-i-eq0.true)

pub returns-then-i-n : goal.returns-then-i-n
returns-then-i-n c q e =
    let n : ℕ = c.args.n in
    vanishing_last q n (omega arith) ∙ ap (λ (i : ℕ). get_or (words (vanishing_poly {q = q} n)) i 0) (sym c.if-i-n.true)

pub returns-else-i-n : goal.returns-else-i-n
returns-else-i-n c q e = vanishing-between q c.args.n c.args.i (omega arith) (omega arith)
