-- What the loop of `record::reader::section_words_fault` keeps. Assumes nothing.
use Rattle.std.proofs.Common.{Bool, List, map, ℕ, ◌-◌, length, take, ltb}
use Rattle.protocol.specs.Record.{words_in}
use Rattle.protocol.specs.Refusals.{trailer_bytes}
use Rattle.protocol.proofs.Rows.{Passed}
use Rattle.record.proofs.reader.section_words_fault.Given as goal

abbrev pub words : List ℕ → List ℕ
words bytes = words_in (take (length bytes - trailer_bytes) bytes)

abbrev pub tests : ℕ → List ℕ → List Bool
tests p bytes = map (λ w. ltb w p) (words bytes)

abbrev pub invariant-loop-i : goal.invariant-loop-i
invariant-loop-i l = Passed 6 0 (tests l.p l.bytes) l.i
