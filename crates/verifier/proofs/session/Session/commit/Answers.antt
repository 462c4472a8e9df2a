-- `verifier::session::Session::commit` meets its contract: the answer is asking's, and decides whether the session is closed. Assumes
-- nothing.
use Rattle.std.proofs.Common.{◌≡◌, sym, ap, ◌∙◌}
use Rattle.domain.specs.BabyBear.{baby_bear}
use Rattle.shared.specs.Meanings.{openings}
use Rattle.protocol.specs.Session.{commit_step}
use Rattle.protocol.proofs.AskThenCommit.{commit_answer, commit_ends, refused_leaves}
use Rattle.verifier.specs.Session.{session_meaning, openings_answer_meaning}
use Rattle.verifier.proofs.session.Session.commit.Goals as goal
use Rattle.verifier.proofs.session.Session.commit.Goals.{After-judgement-answer}

given : (c : After-judgement-answer) → let a = c.args in
    (commit_step baby_bear (session_meaning a.self) (openings a.o a.index)).answer ≡ openings_answer_meaning c.judgement-answer.result
given c = commit_answer baby_bear _ _ ∙ sym c.judgement-answer.ensures

pub returns-in-Ok : goal.returns-in-Ok
returns-in-Ok c =
    let j = (goal.at.returns-in-Ok c).After-judgement-answer in
    let ends = commit_ends baby_bear _ _ _ (given j ∙ ap openings_answer_meaning c.in-Ok.is) in
    c.answered.ensures ∙ (λ i. record { session = sym ends i; answer = sym (given j) i })

pub returns-in-Err : goal.returns-in-Err
returns-in-Err c =
    let j = (goal.at.returns-in-Err c).After-judgement-answer in
    let stays = refused_leaves baby_bear _ _ _ (given j ∙ ap openings_answer_meaning c.in-Err.is) in
    c.answered-in-Err.ensures ∙ (λ i. record { session = sym stays i; answer = sym (given j) i })
