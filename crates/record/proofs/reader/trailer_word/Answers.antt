-- `record::reader::trailer_word` meets its contract. Assumes nothing.
use Rattle.std.proofs.Common.{ap, ◌∙◌, ◌+◌}
use Rattle.protocol.specs.Record.{word_at, trailer_word}
use Rattle.record.proofs.reader.trailer_word.Goals as goal

pub returns : goal.returns
unfolding trailer_word
returns c =
    let a = c.args in
    c.word_at.ensures ∙ ap (λ n. word_at a.bytes.now (n + a.k)) c.section_word_count.ensures
