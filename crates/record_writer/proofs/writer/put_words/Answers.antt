-- `record_writer::writer::put_words` meets its contract: the bytes so far are those of the words so far. Assumes nothing.
use Rattle.std.proofs.Common.{sym, append-nil, arith, take}
use Rattle.protocol.specs.Record.{bytes_of}
use Rattle.record_writer.proofs.Writing.{word_added}
use Rattle.record_writer.proofs.writer.put_words.Goals as goal

pub loop-word-init : goal.loop-word-init
unfolding bytes_of
loop-word-init c = record { place = omega arith; so_far = sym (append-nil _) }

pub loop-word-preserved : goal.loop-word-preserved
loop-word-preserved c =
    let a = c.args in
    let l = c.loop-word in
    let start = take a.at a.out.now in
    record {
      place = omega arith;
      so_far = word_added l.out c.put_word.new.out a.ws.now start l.next l.word-index (omega arith) l.invariant.so_far c.put_word.ensures;
    }
