-- `job::put_text` meets its contract. Assumes nothing.
use Rattle.std.proofs.Common.{rules, sym, ap, ◌∙◌, length}
use Rattle.poly.proofs.LentParts.{lent_length}
use Rattle.text.proofs.WrittenLaws.{written_as}
use Rattle.job.specs.Parts.{words_text}
use Rattle.job.proofs.HeadLaws.{few_words, text_long, text_short, text_words}
use Rattle.job.proofs.put_text.Goals as goal

pub returns-then-bytes-gt-MAX_BYTES : goal.returns-then-bytes-gt-MAX_BYTES
returns-then-bytes-gt-MAX_BYTES c = written_as (text_long c.args.bytes.now (search rules)) c.put_too_long.ensures

pub returns-then-bytes-lt-HEAD_BYTES : goal.returns-then-bytes-lt-HEAD_BYTES
returns-then-bytes-lt-HEAD_BYTES c =
    written_as (text_short c.args.bytes.now (search rules) (search rules)) c.put_too_short.ensures

pub slice_bounds-words-end : goal.slice_bounds-words-end
slice_bounds-words-end c = lent_length 1024 (few_words (length c.args.bytes.now) (search rules))

pub words_into-requires : goal.words_into-requires
words_into-requires c = sym (lent_length 1024 (few_words (length c.args.bytes.now) (search rules)))

pub put_words_text-requires-clause-words_len : goal.put_words_text-requires-clause-words_len
put_words_text-requires-clause-words_len c =
    c.words_into.auto.words ∙ sym (lent_length 1024 (few_words (length c.args.bytes.now) (search rules)))

pub returns : goal.returns
returns c =
    let bytes = c.args.bytes.now in
    written_as (ap (words_text (length bytes)) c.words_into.ensures ∙ text_words bytes (search rules) (search rules))
    c.put_words_text.ensures
