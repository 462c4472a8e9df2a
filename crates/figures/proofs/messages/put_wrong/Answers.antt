-- `figures::messages::put_wrong` meets its contract. Assumes nothing.
use Rattle.text.proofs.WrittenLaws.{written_then}
use Rattle.sheet_lines.specs.Lines.{wrong_text}
use Rattle.figures.proofs.messages.put_wrong.Goals as goal

pub returns : goal.returns
unfolding wrong_text
returns c =
    written_then c.put_labelled-place.ensures.written (written_then c.put_bytes-place.ensures c.put_message.ensures)
