-- `record_writer::writer::fill_record` meets its contract: what is left to put are the sections from a place on. Assumes nothing.
use Rattle.std.proofs.Common.{◌≡◌, sym, ap, ◌∙◌, ◌++◌, [], append-nil, arith, length, drop, drop_of_length-le, take_all}
use Rattle.shared.specs.Meanings.{sizes}
use Rattle.protocol.specs.Record.{bytes_of, write_record}
use Rattle.protocol.proofs.Words.{bytes_of_append}
use Rattle.record.proofs.Starts.{eighteen}
use Rattle.record_writer.specs.Sections.{lists, joined}
use Rattle.record_writer.proofs.Lists.{from_here, count-left, bytes-left}
use Rattle.record_writer.proofs.writer.fill_record.Goals as goal

pub loop-words-preserved : goal.loop-words-preserved
loop-words-preserved c =
    let l = c.loop-words in
    let next = from_here c.args.sections.now l.words-index (omega arith) in
    record {
      room = omega (arith, count-left next, c.put_words-at.ensures.value);
      so_far = bytes-left next _ c.put_words-at.ensures.out_after ∙ l.invariant.so_far;
    }

pub returns : goal.returns
unfolding write_record bytes_of
returns c =
    let a = c.args in
    let l = c.loop-words in
    let t = c.trailer_words in
    let sent = joined (lists a.sections.now) in
    let long : length t.result ≡ 18 = ap length t.ensures ∙ eighteen (sizes a.sizes) in
    let over : drop l.words-index a.sections.now ≡ [] = drop_of_length-le a.sections.now (omega arith) in
    let room = rw over at l.invariant.room in
    let done = rw over at l.invariant.so_far in
    sym (take_all c.put_words.result c.put_words.new.out (omega (arith, long, room, c.put_words.auto.out, c.put_words.ensures.value)))
    ∙ c.put_words.ensures.out_after ∙ ap (λ b. b ++ bytes_of t.result) (sym (append-nil _) ∙ done)
    ∙ sym (bytes_of_append sent t.result) ∙ ap (λ words. bytes_of (sent ++ words)) t.ensures
