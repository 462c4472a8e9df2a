-- `grown::changes::fits_circuit` meets its contract. Assumes nothing.
use Rattle.std.proofs.Common.{sym, ap, ◌∙◌, Bool, ◌&&◌}
use borrow.Author.Tests.{lt-ltb}
use Rattle.protocol.specs.Refusals.{fits}
use Rattle.protocol.specs.Calls.{circuit_of}
use Rattle.protocol.specs.Grown.{grown_circuit, grown_lists}
use Rattle.grown.specs.Meanings.{entry_meaning}
use Rattle.grown.proofs.changes.fits_circuit.Goals as goal

pub returns-then-entry-lt-MAX_ROWS : goal.returns-then-entry-lt-MAX_ROWS
unfolding fits circuit_of grown_lists
returns-then-entry-lt-MAX_ROWS c =
    let a = c.args in
    c.entry_fits.ensures
    ∙ ap (λ (b : Bool). b && fits (grown_circuit a.circuit.now) (entry_meaning a.entry))
    (sym (lt-ltb a.entry.row 1024 c.if-entry-lt-MAX_ROWS.true))
