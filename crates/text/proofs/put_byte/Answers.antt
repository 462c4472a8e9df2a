-- `text::put_byte` meets its contract. Assumes nothing.
use Rattle.text.proofs.WrittenLaws.{written_byte}
use Rattle.text.proofs.put_byte.Goals as goal

pub returns : goal.returns
returns c = written_byte c.args.out.now c.args.at c.args.byte c.requires
