-- `circuit::matrices::size_of` meets its contract. Assumes nothing.
use Rattle.std.proofs.Common.{sym, ap, ◌∙◌}
use Rattle.domain.specs.Size.{size_for}
use Rattle.domain.proofs.SizeLaws.{size_for_past}
use Rattle.protocol.proofs.EntryLists.{length-entries_of}
use Rattle.circuit.proofs.matrices.size_of.Goals as goal

pub returns-then-count : goal.returns-then-count
returns-then-count c =
    let l = c.args.entries.now in
    sym (ap size_for (length-entries_of l) ∙ size_for_past _ c.if-count.true)

pub returns : goal.returns
returns c =
    let l = c.args.entries.now in
    c.size_for.ensures ∙ ap size_for (sym (length-entries_of l))
