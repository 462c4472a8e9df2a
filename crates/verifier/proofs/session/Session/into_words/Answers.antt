-- `verifier::session::Session::into_words` meets its contract. Assumes nothing.
use Rattle.std.proofs.Common.{◌≡◌, ap, ◌∙◌, arith, ◌++◌, length}
use Rattle.domain.specs.Size.{max_size}
use Rattle.verifier.proofs.SessionWords.{three-put}
use Rattle.verifier.specs.Session.{session_meaning, session_words, opening_words}
use Rattle.verifier.proofs.session.Session.into_words.Goals as goal
use Rattle.verifier.proofs.session.Session.into_words.Goals.{Start}

-- the words of x are 1,024, as owning the session tells
whole : (c : Start) → length c.args.self.x ≡ max_size
whole c = omega arith

pub returns : goal.returns
unfolding session_words opening_words
returns c =
    let start = (goal.at.returns c).Start in
    let s = session_meaning c.args.self in
    let size : length c.args.out.now ≡ 1046 = omega arith in
    let x-size = whole start in
    three-put (opening_words s) s.x c.transcript_words.result c.args.out.now (omega arith) 1031 (omega arith) c.put_words.ensures
    c.put_words-2.ensures c.put_words-3.ensures
    ∙ ap (λ l. opening_words s ++ (s.x ++ l)) c.transcript_words.ensures
