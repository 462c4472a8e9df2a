-- What the values of the declared types mean. Assumes nothing.
use Rattle.grown.specs.declared.changes.Entry as declared
use Rattle.protocol.specs.Circuit.{Entry}

abbrev pub entry_meaning : declared.Entry → Entry
entry_meaning e = record { row = e.row; column = e.column; value = e.value }
