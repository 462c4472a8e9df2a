-- `blinding::blinded::entries_into` meets its contract. Assumes nothing.
use mathlib.Core.Path.{ap, ◌∙◌}
use mathlib.Core.List.{List}
use Prim.Native.Nat.{ℕ, ◌+◌}
use native.Mathlib.Omega.{arith}
use lib.ListN.{length, drop, set, length-drop}
use lib.Seq.{lt-length-set}
use Rattle.blinding.proofs.Filling.{three-after}
use Rattle.blinding.proofs.blinded.entries_into.Goals as goal
use Rattle.blinding.proofs.blinded.entries_into.Goals.{After-slice_known-2-1}

-- the slice after the entries are copied
abbrev written : After-slice_known-2-1 → List ℕ
written c = c.copy_front.new.out

pub bounds-out-n-2 : goal.bounds-out-n-2
bounds-out-n-2 c = lt-length-set (written c) _ _ (omega arith)

pub bounds-out-n-3 : goal.bounds-out-n-3
bounds-out-n-3 c = lt-length-set (set (written c) _ _) _ _ (lt-length-set (written c) _ _ (omega arith))

pub returns : goal.returns
returns c =
    let a = c.args in
    let n : ℕ = length a.entries.now in
    ap (λ (l : List ℕ). set (set (set l n a.row) (n + 1) a.column) (n + 2) a.value) c.copy_front.ensures
    ∙ three-after a.entries.now (drop n a.out.now) a.row a.column a.value (simp length-drop (omega arith))
