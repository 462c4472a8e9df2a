-- `shared::six_sizes::largest` meets its contract. Assumes nothing.
use mathlib.Core.Path.{ap, ◌∙◌}
use Prim.Native.Nat.{max}
use Rattle.protocol.specs.Circuit.{largest}
use Rattle.shared.proofs.six_sizes.largest.Goals as goal

pub returns : goal.returns
unfolding largest
returns c = c.larger-2.ensures ∙ ap (max c.args.k.a) c.larger.ensures
