-- What the loop of `job::words_into` keeps. Assumes nothing.
use Rattle.domain.proofs.Fill.{Filled}
use Rattle.protocol.specs.Record.{words_in}
use Rattle.job.proofs.words_into.Given as goal

abbrev pub invariant-loop-i : goal.invariant-loop-i
invariant-loop-i l = Filled (words_in l.bytes) l.words l.i
