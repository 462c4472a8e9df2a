-- `blinding::blinded::assignment_into` meets its contract. Assumes nothing.
use mathlib.Core.Path.{ap, ◌∙◌}
use mathlib.Core.List.{List}
use Prim.Native.Nat.{ℕ}
use native.Mathlib.Omega.{arith}
use lib.ListN.{set}
use lib.Seq.{lt-length-set}
use Rattle.blinding.proofs.Filling.{nothing_left}
use Rattle.blinding.proofs.blinded.assignment_into.Goals as goal
use Rattle.blinding.proofs.blinded.assignment_into.Goals.{After-struct_known-1}

-- the slice after z is copied
abbrev written : After-struct_known-1 → List ℕ
written c = c.copy_front.new.out

pub bounds-out-columns-2 : goal.bounds-out-columns-2
bounds-out-columns-2 c = lt-length-set (written (goal.at.bounds-out-columns-2 c).After-struct_known-1) _ _ (omega arith)

pub bounds-out-columns-3 : goal.bounds-out-columns-3
bounds-out-columns-3 c =
    let out = written (goal.at.bounds-out-columns-3 c).After-struct_known-1 in
    lt-length-set (set out _ _) _ _ (lt-length-set out _ _ (omega arith))

pub returns : goal.returns
returns c =
    let a = c.args in
    let k = a.columns in
    ap (λ (l : List ℕ). set (set (set l k.a a.rho.a) k.b a.rho.b) k.c a.rho.c)
    (c.copy_front.ensures ∙ nothing_left a.z.now a.out.now (omega arith))
