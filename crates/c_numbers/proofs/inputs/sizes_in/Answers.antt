-- `c_numbers::inputs::sizes_in` meets its contract. Assumes nothing.
use Rattle.std.proofs.Common.{refl}
use Rattle.verifier.specs.Session.{three_at}
use Rattle.c_numbers.specs.Inputs.{sizes_in}
use Rattle.c_numbers.proofs.inputs.sizes_in.Goals as goal

pub returns : goal.returns
unfolding sizes_in three_at
returns c = refl
