-- A session and its words: each gives back the other. Assumes nothing.
use mathlib.Core.Path.{◌≡◌, sym, ap, ap₂, ◌∙◌}
use mathlib.Core.List.{List, [], ◌∷◌, ◌++◌, append-nil, append_assoc}
use Prim.Native.Nat.{ℕ, zero, suc, ◌+◌, ◌≤◌}
use native.Mathlib.Omega.{arith}
use native.Mathlib.Nat.{zero-add}
use lib.ListN.{length, take, drop, get_or, take-append-drop, drop_of_length-le}
use lib.Seq.{drop-cons, drop-length, drop-drop, get_or-drop, take_at, drop_at, take-length, paste, length-paste, take-paste}
use Rattle.domain.specs.Size.{max_size}
use Rattle.protocol.specs.Session as steps
use Rattle.protocol.specs.Checks.{Transcript, list_transcript}
use Rattle.verifier.specs.Session.{opening_words, session_words, three_at, transcript_of, session_of}

-- n words from a place on
abbrev words_from : ℕ → ℕ → List ℕ → List ℕ
words_from zero at l = []
words_from (suc n) at l = get_or l at 0 ∷ words_from n (suc at) l

from_place : (n at : ℕ) (l : List ℕ) → at + n ≤ length l → drop at l ≡ words_from n at l ++ drop (at + n) l
from_place zero at l fits = let e : at ≡ at + 0 = omega arith in ap (λ k. drop k l) e
from_place (suc n) at l fits =
    let e : suc at + n ≡ at + suc n = omega arith in
    drop-cons l at 0 (omega arith)
    ∙ ap (λ k. get_or l at 0 ∷ k) (from_place n (suc at) l (omega arith) ∙ ap (λ k. words_from n (suc at) l ++ drop k l) e)

-- the words of the session with these words
pub words-of-session : (l : List ℕ) → length l ≡ 1046 → session_words (session_of l) ≡ l
unfolding opening_words session_words three_at transcript_of session_of
words-of-session l size =
    let opening : drop 0 l ≡ opening_words (session_of l) ++ drop 7 l = from_place 7 0 l (omega arith) in
    let transcript : drop 1031 l ≡ list_transcript (transcript_of l) ++ drop 1046 l = from_place 15 1031 l (omega arith) in
    let end : drop 1046 l ≡ [] = ap (λ k. drop k l) (sym size) ∙ drop-length l in
    let rest : drop max_size (drop 7 l) ≡ list_transcript (transcript_of l) =
    drop-drop max_size 7 l ∙ transcript ∙ ap (λ k. list_transcript (transcript_of l) ++ k) end ∙ append-nil _ in
    let middle : take max_size (drop 7 l) ++ list_transcript (transcript_of l) ≡ drop 7 l =
    ap (λ k. take max_size (drop 7 l) ++ k) (sym rest) ∙ take-append-drop max_size (drop 7 l) in
    ap (λ k. opening_words (session_of l) ++ k) middle ∙ sym opening

-- the transcript, word by word
abbrev transcript_at : (ℕ → ℕ) → Transcript ℕ
transcript_at f =
    record {
      α = f 0;
      sums = record { a = f 1; b = f 2; c = f 3 };
      η = record { a = f 4; b = f 5; c = f 6 };
      β = f 7;
      values = record { a = f 8; b = f 9; c = f 10 };
      δ = record { a = f 11; b = f 12; c = f 13 };
      γ = f 14;
    }

transcript_same : (f g : ℕ → ℕ) → ((n : ℕ) → f n ≡ g n) → transcript_at f ≡ transcript_at g
transcript_same f g same =
    cc (same 0, same 1, same 2, same 3, same 4, same 5, same 6, same 7, same 8, same 9, same 10, same 11, same 12, same 13, same 14)

-- the session with the words of a session
pub session-of-words : (s : steps.Session) → length s.x ≡ max_size → session_of (session_words s) ≡ s
unfolding opening_words session_words three_at transcript_of session_of
session-of-words s size =
    let words = session_words s in
    let after : drop 1031 words ≡ list_transcript s.transcript = drop_at s.x (list_transcript s.transcript) max_size size in
    let word : (n : ℕ) → get_or words (1031 + n) 0 ≡ get_or (list_transcript s.transcript) n 0 = λ n.
    sym (get_or-drop 1031 words n 0) ∙ ap (λ l. get_or l n 0) after in
    ap₂ (λ x h. record { stage = s.stage; sizes = s.sizes; x = x; transcript = h })
    (take_at s.x (list_transcript s.transcript) max_size size)
    (transcript_same (λ n. get_or words (1031 + n) 0) (λ n. get_or (list_transcript s.transcript) n 0) word)

-- three lists put into a list one after the other
module _ (a b c out : List ℕ) (whole : length a + length b + length c ≡ length out) where
  pub three-put : {first second third : List ℕ} (at : ℕ) → at ≡ length a + length b → first ≡ paste out 0 a (length a)
      → second ≡ paste first (length a) b (length b) → third ≡ paste second at c (length c) → third ≡ a ++ (b ++ c)
  three-put {first} {second} {third} at seam put_a put_b put-c =
      let first-size : length first ≡ length out = ap length put_a ∙ length-paste out 0 a (length a) (omega arith) (omega arith) in
      let second-size : length second ≡ length out =
      ap length put_b ∙ length-paste first (length a) b (length b) (omega arith) (omega arith) ∙ first-size in
      let head : take (length a) first ≡ a =
      ap₂ take (sym (zero-add (length a))) put_a ∙ take-paste out 0 a (length a) (omega arith) (omega arith) ∙ take-length a in
      let heads : take at second ≡ a ++ b =
      ap₂ take seam put_b ∙ take-paste first (length a) b (length b) (omega arith) (omega arith) ∙ ap₂ ◌++◌ head (take-length b) in
      let full : length second ≤ at + length c = omega arith in
      let tail : drop (at + length c) second ≡ [] = drop_of_length-le second full in
      put-c ∙ ap₂ ◌++◌ (ap₂ ◌++◌ heads (take-length c)) tail ∙ append-nil _ ∙ append_assoc a b c
