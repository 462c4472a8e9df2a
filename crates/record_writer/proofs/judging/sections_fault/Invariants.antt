-- What the loop of `record_writer::judging::sections_fault` keeps. Assumes nothing.
use Rattle.std.proofs.Common.{◌≡◌, ◌+◌, ◌≤◌, map, length, drop}
use Rattle.record.specs.Layout.{byte_count}
use Rattle.record_writer.specs.Sections.{lists, joined, refuse_words}
use Rattle.record_writer.proofs.judging.sections_fault.Given as goal

abbrev pub invariant-loop-words : goal.invariant-loop-words
invariant-loop-words l =
    let left = lists (drop l.words-index l.sections) in
    record {
      few : l.start + byte_count (map length left) ≤ byte_count (map length (lists l.sections));
      so_far : refuse_words l.p 0 (joined (lists l.sections)) ≡ refuse_words l.p l.start (joined left);
    }
