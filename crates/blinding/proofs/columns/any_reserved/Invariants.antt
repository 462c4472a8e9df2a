-- What the loop of `blinding::columns::any_reserved` keeps. Assumes nothing.
use Rattle.std.proofs.Common.{◌≡◌, ℕ, ◌<◌, false}
use Rattle.shared.specs.Meanings.{three}
use Rattle.circuit.specs.Given.{entry_words}
use Rattle.blinding.proofs.Reserved.{stands}
use Rattle.blinding.proofs.columns.any_reserved.Given as goal

abbrev pub invariant-loop-i : goal.invariant-loop-i
invariant-loop-i l = (j : ℕ) → j < l.i → stands l.last (three l.columns) (entry_words l.entries j) ≡ false
