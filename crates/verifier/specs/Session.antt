-- What the values of the session's declared types mean (protocol's Session), and a session as a list of words. Assumes nothing.
use Rattle.std.specs.Prelude.{List, ◌∷◌, ◌++◌, ℕ, ◌+◌, take, drop, get_or, Result, Ok, Err}
use Rattle.domain.specs.Size.{max_size}
use Rattle.protocol.specs.Three.{Three, listed}
use Rattle.protocol.specs.Checks.{Transcript, list_transcript}
use Rattle.protocol.specs.Refusals as protocol
use Rattle.protocol.specs.Session as steps
use Rattle.protocol.specs.Session.{Taken, Judged, Refused}
use Rattle.shared.specs.Meanings.{refusal, sizes, transcript, verdict_meaning}
use Rattle.shared.specs.declared.Refusal.{Refusal}
use Rattle.shared.specs.declared.Verdict.{Verdict}
use Rattle.verifier.specs.declared.session.Session.{Session}
use Rattle.verifier.specs.declared.session.Stepped.{Stepped}

abbrev pub session_meaning : Session → steps.Session
session_meaning s = record { stage = s.stage; sizes = sizes s.sizes; x = s.x; transcript = transcript s.transcript }

-- what a step before the openings answers, and what openings are answered with, from what their errors mean
module _ {E : Type 0} (refused : E → protocol.Refusal) where
  abbrev pub answer_by : Result (Unit {0}) E → steps.Answer
  answer_by (Ok nothing) = Taken
  answer_by (Err e) = Refused (refused e)

  abbrev pub openings_answer_by : Result Verdict E → steps.Answer
  openings_answer_by (Ok v) = Judged (verdict_meaning v)
  openings_answer_by (Err e) = Refused (refused e)

-- the same, of answers whose error is a refusal of the table
abbrev pub answer_meaning : Result (Unit {0}) Refusal → steps.Answer
answer_meaning = answer_by refusal

abbrev pub openings_answer_meaning : Result Verdict Refusal → steps.Answer
openings_answer_meaning = openings_answer_by refusal

abbrev pub stepped_meaning : Stepped (Unit {0}) → steps.Stepped
stepped_meaning r = record { session = session_meaning r.session; answer = answer_meaning r.answer }

abbrev pub openings_stepped_meaning : Stepped Verdict → steps.Stepped
openings_stepped_meaning r = record { session = session_meaning r.session; answer = openings_answer_meaning r.answer }

-- A session as 1,046 words: the stage and the six sizes, the 1,024 words of x, and the transcript.
unfoldable pub opening_words : steps.Session → List ℕ
opening_words s = s.stage ∷ s.sizes.|R| ∷ s.sizes.|C| ∷ s.sizes.|X| ∷ listed s.sizes.|K|

unfoldable pub session_words : steps.Session → List ℕ
session_words s = opening_words s ++ (s.x ++ list_transcript s.transcript)

-- three words from a place on
unfoldable pub three_at : List ℕ → ℕ → Three ℕ
three_at l at = record { a = get_or l at 0; b = get_or l (at + 1) 0; c = get_or l (at + 2) 0 }

unfoldable pub transcript_of : List ℕ → Transcript ℕ
transcript_of l =
    record {
      α = get_or l 1031 0;
      sums = three_at l 1032;
      η = three_at l 1035;
      β = get_or l 1038 0;
      values = three_at l 1039;
      δ = three_at l 1042;
      γ = get_or l 1045 0;
    }

-- the session with these words, also one that no step made
unfoldable pub session_of : List ℕ → steps.Session
session_of l =
    record {
      stage = get_or l 0 0;
      sizes = record { |R| = get_or l 1 0; |C| = get_or l 2 0; |X| = get_or l 3 0; |K| = three_at l 4 };
      x = take max_size (drop 7 l);
      transcript = transcript_of l;
    }
