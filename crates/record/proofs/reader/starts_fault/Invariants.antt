-- What the loop of `record::reader::starts_fault` keeps. Assumes nothing.
use Rattle.std.proofs.Common.{eqb}
use Rattle.algebra.specs.Lists.{tabulate}
use Rattle.protocol.specs.Record.{trailer_word}
use Rattle.protocol.specs.Refusals.{pairs}
use Rattle.protocol.proofs.Rows.{Passed}
use Rattle.record.proofs.reader.starts_fault.Given as goal

abbrev pub invariant-loop-k : goal.invariant-loop-k
invariant-loop-k l = Passed 3 0 (pairs eqb (tabulate 11 (trailer_word l.bytes)) l.given) l.k
