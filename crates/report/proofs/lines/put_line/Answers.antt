-- `report::lines::put_line` meets its contract. Assumes nothing.
use Rattle.text.proofs.WrittenLaws.{written_then}
use Rattle.report.proofs.PrintedLaws.{line_printed}
use Rattle.report.proofs.lines.put_line.Goals as goal

pub returns : goal.returns
returns c =
    let a = c.args in
    line_printed a.name.now a.words.now c.put_numbers-next.ensures.short
    (written_then c.put_bytes-named.ensures (written_then c.put_numbers-next.ensures.written c.put_byte.ensures))
