-- `verifier::session::Session::from_words` meets its contract. Assumes nothing.
use Rattle.std.proofs.Common.{◌≡◌, ap, ap₂, ◌∙◌, arith, List, ◌++◌, ℕ, ◌-◌, length, take, drop, get_or}
use mathlib.Core.List.{append-nil}
use lib.ListN.{replicate, length-drop}
use lib.Seq.{length-take-le}
use Rattle.domain.specs.Size.{max_size}
use Rattle.protocol.specs.Checks.{Transcript}
use Rattle.protocol.specs.Three.{Three}
use Rattle.protocol.specs.Session as steps
use Rattle.shared.specs.Meanings.{transcript}
use Rattle.verifier.specs.Session.{session_of, three_at}
use Rattle.verifier.proofs.session.Session.from_words.Goals as goal

-- a list that is full takes no zeros
full : (m : ℕ) (l : List ℕ) → length l ≡ m → l ++ replicate (m - length l) 0 ≡ l
full m l size = let e : m - length l ≡ 0 = omega arith in ap (λ k. l ++ replicate k 0) e ∙ append-nil l

pub returns : goal.returns
unfolding session_of
returns c =
    let words = c.args.words.now in
    let size : length words ≡ 1046 = omega arith in
    let x : c.padded.result ≡ take max_size (drop 7 words) =
    c.padded.ensures
    ∙ full max_size (take max_size (drop 7 words)) (length-take-le max_size (drop 7 words) (simp length-drop (omega arith))) in
    let session : Three ℕ → List ℕ → Transcript ℕ → steps.Session = λ k x h.
    record {
      stage = get_or words 0 0;
      sizes = record { |R| = get_or words 1 0; |C| = get_or words 2 0; |X| = get_or words 3 0; |K| = k };
      x = x;
      transcript = h;
    } in
    ap (λ k. session k c.padded.result (transcript c.transcript_in.result)) c.triple_at.ensures
    ∙ ap₂ (session (three_at words 4)) x c.transcript_in.ensures
