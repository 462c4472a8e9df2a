-- `verifier::session::transcript_in` meets its contract. Assumes nothing.
use Rattle.verifier.specs.Session.{transcript_of}
use Rattle.verifier.proofs.session.transcript_in.Goals as goal

pub returns : goal.returns
unfolding transcript_of
returns c = cc
