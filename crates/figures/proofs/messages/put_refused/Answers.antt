-- `figures::messages::put_refused` meets its contract. Assumes nothing.
use Rattle.std.proofs.Common.{ap}
use Rattle.text.proofs.WrittenLaws.{written_then, written_as}
use Rattle.sheet_lines.specs.Lines.{refused_text}
use Rattle.figures.proofs.messages.put_refused.Goals as goal

pub returns : goal.returns
returns c =
    written_as (ap (λ n. refused_text (record { number = n; position = c.args.refusal.1 })) c.number.ensures)
    (written_then c.put_labelled-place.ensures.written (written_then c.put_labelled-place-2.ensures.written c.put_byte.ensures))
