-- `verifier::session::Session::ask` meets its contract: asking leaves the session. Assumes nothing.
use Rattle.domain.specs.BabyBear.{baby_bear}
use Rattle.shared.specs.Meanings.{openings}
use Rattle.protocol.proofs.AskThenCommit.{ask_leaves}
use Rattle.verifier.specs.Session.{session_meaning}
use mathlib.Core.Path.{sym, ◌∙◌}
use Rattle.verifier.proofs.session.Session.ask.Goals as goal

pub returns : goal.returns
returns c =
    let a = c.args in
    let same = ask_leaves baby_bear (session_meaning a.self) (openings a.o a.index) in
    c.answered.ensures ∙ (λ i. record { session = sym same i; answer = c.judgement.ensures i })
