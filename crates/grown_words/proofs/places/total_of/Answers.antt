-- `grown_words::places::total_of` meets its contract. Assumes nothing.
use Rattle.std.proofs.Common.{arith}
use Rattle.std.proofs.lemmas.Grind.{common_steps}
use Rattle.protocol.specs.Grown.{total}
use Rattle.grown_words.proofs.places.total_of.Goals as goal

pub returns : goal.returns
unfolding total
returns c = grind (arith, common_steps)
