-- `circuit::matrices::sizes_of` meets its contract. Assumes nothing.
use Rattle.std.proofs.Common.{ap}
use Rattle.protocol.specs.Calls.{circuit_of}
use Rattle.protocol.specs.Circuit.{sizes_of}
use Rattle.circuit.proofs.matrices.sizes_of.Goals as goal

pub returns : goal.returns
unfolding sizes_of circuit_of
returns c =
    let k = c.args.circuit.now in
    ap (λ sizes. record { |R| = k.r; |C| = k.c; |X| = k.x; |K| = sizes }) c.matrix_sizes.ensures
