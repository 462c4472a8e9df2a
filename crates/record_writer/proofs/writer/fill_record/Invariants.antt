-- What the loop of `record_writer::writer::fill_record` keeps. Assumes nothing.
use Rattle.std.proofs.Common.{◌≡◌, ◌+◌, ◌++◌, map, length, take, drop}
use Rattle.protocol.specs.Record.{bytes_of}
use Rattle.record.specs.Layout.{byte_count}
use Rattle.record_writer.specs.Sections.{lists, joined}
use Rattle.record_writer.proofs.writer.fill_record.Given as goal

abbrev pub invariant-loop-words : goal.invariant-loop-words
invariant-loop-words l =
    let left = lists (drop l.words-index l.sections) in
    record {
      room : l.at + byte_count (map length left) ≡ byte_count (map length (lists l.sections));
      so_far : take l.at l.out ++ bytes_of (joined left) ≡ bytes_of (joined (lists l.sections));
    }
