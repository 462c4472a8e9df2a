-- `varuna_c::session::varuna_session_new` meets its contract. Assumes nothing.
use Rattle.std.proofs.Common.{ap, ◌∙◌}
use Rattle.verifier.specs.Session.{session_words}
use Rattle.varuna_c.proofs.session.varuna_session_new.Goals as goal

pub returns : goal.returns
returns c =
    c.into_words.ensures ∙ ap session_words c.new-s.ensures
