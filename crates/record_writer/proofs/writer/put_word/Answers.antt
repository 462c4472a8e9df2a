-- `record_writer::writer::put_word` meets its contract. Assumes nothing.
use Rattle.std.proofs.Common.{ap, ◌∙◌, ◌+◌, ◌++◌, arith, length, take}
use Rattle.std.proofs.lemmas.Slice.{take-put_mid}
use Rattle.protocol.specs.Record.{word_bytes}
use Rattle.record_writer.proofs.writer.put_word.Goals as goal

pub returns : goal.returns
unfolding word_bytes
returns c =
    let a = c.args in
    let stored = c.copy_from_slice.ensures.after ∙ c.to_le_bytes.ensures in
    take-put_mid a.at _ a.out.now _ (a.at + 4) (omega (arith, ap length stored)) (omega arith) ∙ ap (λ b. take a.at a.out.now ++ b) stored
