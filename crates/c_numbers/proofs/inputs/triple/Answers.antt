-- `c_numbers::inputs::triple` meets its contract. Assumes nothing.
use Rattle.std.proofs.Common.{refl}
use Rattle.verifier.specs.Session.{three_at}
use Rattle.c_numbers.proofs.inputs.triple.Goals as goal

pub returns : goal.returns
unfolding three_at
returns c = refl
