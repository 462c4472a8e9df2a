-- What the loop of `record_writer::writer::put_words` keeps. Assumes nothing.
use Rattle.std.proofs.Common.{◌≡◌, ◌+◌, ◌*◌, ◌++◌, take}
use Rattle.protocol.specs.Record.{bytes_of}
use Rattle.record_writer.proofs.writer.put_words.Given as goal

abbrev pub invariant-loop-word : goal.invariant-loop-word
invariant-loop-word l =
    record {
      place : l.next ≡ l.at + 4 * l.word-index;
      so_far : take l.next l.out ≡ take l.at l.initial.out ++ bytes_of (take l.word-index l.ws);
    }
