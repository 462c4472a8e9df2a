-- `report::lines::put_number` meets its contract. Assumes nothing.
use Rattle.text.proofs.WrittenLaws.{written_then}
use Rattle.report.proofs.lines.put_number.Goals as goal

pub returns : goal.returns
returns c = written_then c.put_byte-next.ensures c.put_decimal.ensures
