-- `blinding::blinded::blind_into` meets its contract. Assumes nothing.
use mathlib.Core.Path.{◌≡◌, refl, sym, ◌∙◌}
use mathlib.Core.List.{List}
use Prim.Native.Nat.{ℕ}
use native.Mathlib.Omega.{arith}
use Rattle.domain.proofs.SizeLaws.{size_positive}
use Rattle.protocol.specs.Calls.{CircuitWords, circuit_of}
use Rattle.protocol.specs.Blinded.{reserved_columns}
use Rattle.shared.specs.Meanings.{three}
use Rattle.circuit.specs.Given.{circuit_words}
use Rattle.blinding.specs.Given.{Reserving, Fitting}
use Rattle.blinding.proofs.Reserved.{columns-below}
use Rattle.blinding.proofs.Filling.{all_filled}
use Rattle.blinding.proofs.blinded.blind_into.Goals as goal
use Rattle.blinding.proofs.blinded.blind_into.Goals.{After-reserved_columns-columns}

abbrev circuit : After-reserved_columns-columns → CircuitWords
circuit r = circuit_words r.args.circuit.now

columns : (r : After-reserved_columns-columns) → three r.reserved_columns-columns.result ≡ reserved_columns (circuit_of (circuit r))
unfolding circuit_of
columns r = r.reserved_columns-columns.ensures (circuit_of (circuit r)) refl refl

reserving : {r c x : ℕ} {ea eb ec z blindedA blindedB blindedC blindedZ : List ℕ}
    → Fitting r c x ea eb ec z blindedA blindedB blindedC blindedZ → Reserving c x
reserving F =
    let S = F.shaped.sized in
    record { C-size = S.C-size; X-size = S.X-size; X-within = S.X-within; enough = F.enough }

pub reserved_columns-columns-requires : goal.reserved_columns-columns-requires
reserved_columns-columns-requires c = reserving c.requires

pub overflow_sub-last : goal.overflow_sub-last
overflow_sub-last c = omega (arith, size_positive _ c.requires.shaped.sized.R-size)

pub assignment_into-requires : goal.assignment_into-requires
unfolding circuit_of
assignment_into-requires c =
    let r = (goal.at.assignment_into-requires c).After-reserved_columns-columns in
    let F = r.requires in
    record {
      out_len = F.lent-z ∙ sym F.shaped.z-length;
      a_in_bounds = columns-below (circuit_of (circuit r)) refl refl (reserving F) (columns r) F.shaped.z-length;
    }

pub returns : goal.returns
returns c =
    let r = (goal.at.returns c).After-reserved_columns-columns in
    let F = r.requires.shaped in
    all_filled (circuit r) r.args.z.now (three r.args.rho) (three r.reserved_columns-columns.result) (columns r)
    F.list-a.whole F.list-b.whole F.list-c.whole
    c.entries_into.ensures c.entries_into-2.ensures c.entries_into-3.ensures c.assignment_into.ensures
