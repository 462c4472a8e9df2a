-- `verifier::session::Session::new` meets its contract. Assumes nothing.
use Rattle.domain.specs.Size.{max_size}
use Rattle.protocol.specs.Session as steps
use Rattle.protocol.specs.Session.{unopened}
use Rattle.protocol.specs.Three.{each}
use lib.ListN.{replicate}
use mathlib.Core.Path.{ap}
use Rattle.verifier.proofs.session.Session.new.Goals as goal

pub returns : goal.returns
unfolding unopened
returns c =
    ap
    {B = steps.Session}
    (λ h. record { stage = 0; sizes = record { |R| = 0; |C| = 0; |X| = 0; |K| = each (λ M. 0) }; x = replicate max_size 0; transcript = h })
    c.nothing_heard.ensures
