-- `call_refusals::index_lengths` meets its contract. Assumes nothing.
use Rattle.circuit.specs.Judgement.{index_due}
use Rattle.call_refusals.proofs.index_lengths.Goals as goal

pub returns : goal.returns
unfolding index_due
returns c = rw (c.size_of-a.ensures, c.size_of-b.ensures, c.size_of-c.ensures)
