-- `verifier::session::triple_at` meets its contract. Assumes nothing.
use mathlib.Core.Path.{refl}
use Rattle.verifier.specs.Session.{three_at}
use Rattle.verifier.proofs.session.triple_at.Goals as goal

pub returns : goal.returns
unfolding three_at
returns c = refl
