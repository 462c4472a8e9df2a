-- `prover::line::weights_from` meets its contract. Assumes nothing.
use mathlib.Core.Path.{◌∙◌}
use lib.ListN.{length}
use Rattle.field.specs.Element.{of}
use Rattle.protocol.specs.Three.{map_three}
use Rattle.shared.specs.Meanings.{three}
use Rattle.prover.proofs.LineLaws.{weights_made}
use Rattle.prover.proofs.line.weights_from.Goals as goal

pub returns : goal.returns
returns c q e k eR matrices α made =
    let a = c.args in
    let l = a.circuit.now.matrices in
    c.add_weights.ensures q e
    ∙ weights_made q k (length a.out.now) eR α (map_three of (three a.eta)) l.a.now l.b.now l.c.now matrices c.requires.each_within
    made c.clear.ensures
