-- Conversations that end in a verdict: the verifier hears the words of elements, and gives the verdict on these elements exactly where
-- nothing refuses a step. Assumes nothing.
use mathlib.Core.Path.{◌≡◌, refl, sym, ap, ap₂, ◌∙◌, subst}
use mathlib.Core.Logic.{inr}
use mathlib.Core.Bool.{true}
use mathlib.Core.List.{List, [], ◌∷◌, ◌++◌, map}
use Prim.Native.Nat.{ℕ, ◌<◌}
use lib.ListN.{length, get_or, length-map}
use lib.Seq.{take_at}
use Rattle.algebra.specs.Counting.{All}
use Rattle.field.specs.Prime.{Prime}
use Rattle.field.specs.Element.{Elem, of, word_of, words}
use Rattle.field.proofs.ElementLaws.{of_word, word_below}
use Rattle.field.proofs.Words.{of_words}
use Rattle.domain.specs.Domain.{Outside}
use Rattle.domain.specs.Polynomial.{Poly}
use Rattle.protocol.specs.Three.{Three, listed, map_three}
use Rattle.protocol.specs.Circuit.{Sizes, largest, BeginsWithOne}
use Rattle.protocol.specs.Index.{Index, map_index}
use Rattle.protocol.specs.Checks.{Transcript, Openings, map_transcript, map_openings, list_openings, Verdict, verdict}
use Rattle.protocol.specs.Messages.{Messages, MessageLengths, map_messages, lengths_of, Short}
use Rattle.protocol.specs.Refusals.{six_size_tests}
use Rattle.protocol.specs.Session.{Session, Answer, Taken, Judged, unopened, after, answers, commit_step, verdict_of}
use Rattle.protocol.specs.Conversation.{Challenges, map_challenges, transcript_of, hearing, steps, ending_in}
use Rattle.protocol.proofs.FirstWord.{first-element, first_word}
use Rattle.protocol.proofs.UnrefusedSteps.{openings-passes}
use Rattle.protocol.proofs.AskThenCommit.{ask_leaves, gets_verdict}
use Rattle.protocol.proofs.TakenSteps.{heard_all, Fitting, hearing-taken, all-judged, risen_fitting}

-- words of elements
module _ {q : Prime} where
  pub words-below : (l : List (Elem q)) → All (λ w. w < q.p) (words l)
  words-below [] = tt
  words-below (a ∷ l) = (word_below a, words-below l)

  three_back : (t : Three (Elem q)) → map_three of (map_three word_of t) ≡ t
  three_back t = λ i. record { a = of_word t.a i; b = of_word t.b i; c = of_word t.c i }

  transcript_back : (t : Transcript (Elem q)) → map_transcript of (map_transcript word_of t) ≡ t
  transcript_back t = λ i.
      record {
        α = of_word t.α i;
        sums = three_back t.sums i;
        η = three_back t.η i;
        β = of_word t.β i;
        values = three_back t.values i;
        δ = three_back t.δ i;
        γ = of_word t.γ i;
      }

  index_back : (v : Index (Elem q)) → map_index of (map_index word_of v) ≡ v
  index_back v = λ i. record { row = of_word v.row i; col = of_word v.col i; rowcol = of_word v.rowcol i; rowcolval = of_word v.rowcolval i }

  openings_back : (o : Openings (Elem q)) → map_openings of (map_openings word_of o) ≡ o
  openings_back o = λ i.
      record {
        witness = of_word o.witness i;
        mask = of_word o.mask i;
        line_remainder = of_word o.line_remainder i;
        line_quotient = of_word o.line_quotient i;
        row_quotient = of_word o.row_quotient i;
        joined_quotient = of_word o.joined_quotient i;
        matrix_remainders = three_back o.matrix_remainders i;
        index = record { a = index_back o.index.a i; b = index_back o.index.b i; c = index_back o.index.c i };
      }

  -- the declared lengths
  pub lengths_back : (sent : Messages (Poly q) (Elem q))
      → lengths_of (map_messages words word_of sent) ≡ lengths_of sent
  lengths_back sent =
      let same : (f : Poly q) → length (words f) ≡ length f = λ f. length-map f word_of in
      λ i.
      record {
        witness = same sent.witness i;
        mask = same sent.mask i;
        row_quotient = same sent.row_quotient i;
        line_remainder = same sent.line_remainder i;
        line_quotient = same sent.line_quotient i;
        matrix_remainders =
            record { a = same sent.matrix_remainders.a i; b = same sent.matrix_remainders.b i; c = same sent.matrix_remainders.c i };
        joined_quotient = same sent.joined_quotient i;
      }

module _ {q : Prime} (s : Sizes) (x : List (Elem q)) (t : Challenges (Elem q)) (sent : Messages (Poly q) (Elem q)) where
  -- a conversation in which nothing is refused, and its verdict
  pub record JudgedSession (o : Openings (Elem q)) (v : Verdict) : Type 0 where
    pub sizes-allowed : All (λ test. test ≡ true) (six_size_tests s)
    pub x-length : length x ≡ s.|X|
    pub x-begins : BeginsWithOne x
    pub short : Short s (lengths_of sent)
    pub α-outside : Outside s.|R| t.α
    pub β-outside : Outside s.|C| t.β
    pub γ-outside : Outside (largest s.|K|) t.γ
    pub verdict-is : verdict s x (transcript_of t sent) o ≡ v

  -- what the verifier hears, in words
  abbrev heard_words : Transcript ℕ
  heard_words = map_transcript word_of (transcript_of t sent)

  abbrev declared : MessageLengths
  declared = lengths_of (map_messages words word_of sent)

  fitting : {o : Openings (Elem q)} {v : Verdict} → JudgedSession o v → Fitting q s (words x) heard_words declared
  fitting J =
      record {
        sizes-allowed = J.sizes-allowed;
        public = record { x-length = length-map x word_of ∙ J.x-length; x_below = words-below x; x-begins = first_word q x J.x-begins };
        heard =
            record {
              α-below = word_below t.α;
              η-below = words-below (listed sent.sums ++ listed t.η);
              β-below = word_below t.β;
              δ-below = words-below (listed sent.values ++ listed t.δ);
              γ-below = word_below t.γ;
              α-outside = subst (Outside s.|R|) (sym (of_word t.α)) J.α-outside;
              β-outside = subst (Outside s.|C|) (sym (of_word t.β)) J.β-outside;
              γ-outside = subst (Outside (largest s.|K|)) (sym (of_word t.γ)) J.γ-outside;
            };
        short = subst (Short s) (sym (lengths_back sent)) J.short;
      }

  module _ (o : Openings (Elem q)) where
    -- a session that the steps before the openings took to stage 6
    pub heard-session : (after q unopened (hearing s (words x) heard_words declared)).stage ≡ 6 → JudgedSession o (verdict s x (transcript_of t sent) o)
    heard-session risen =
        let fits = risen_fitting q s (words x) heard_words declared risen in
        record {
          sizes-allowed = fits.sizes-allowed;
          x-length = sym (length-map x word_of) ∙ fits.public.x-length;
          x-begins = subst (λ l. BeginsWithOne l) (of_words x) (first-element q (words x) fits.public.x-begins);
          short = subst (Short s) (lengths_back sent) fits.short;
          α-outside = subst (Outside s.|R|) (of_word t.α) fits.heard.α-outside;
          β-outside = subst (Outside s.|C|) (of_word t.β) fits.heard.β-outside;
          γ-outside = subst (Outside (largest s.|K|)) (of_word t.γ) fits.heard.γ-outside;
          verdict-is = refl;
        }

    -- the openings in words, and the verdict
    abbrev last : Openings ℕ
    last = map_openings word_of o

    verdict_back : length x ≡ s.|X| → verdict_of q (heard_all s (words x) heard_words) last ≡ verdict s x (transcript_of t sent) o
    unfolding verdict_of
    verdict_back x-length =
        ap (λ l. verdict {q = q} s (map of l) (map_transcript of heard_words) (map_openings of last))
        (take_at (words x) _ s.|X| (length-map x word_of ∙ x-length))
        ∙ ap (λ x. verdict s x (map_transcript of heard_words) (map_openings of last)) (of_words x)
        ∙ ap₂ (λ t o. verdict s x t o) (transcript_back (transcript_of t sent)) (openings_back o)

    -- the verifier's answers
    abbrev answered : List Answer
    answered = answers q unopened (steps s (words x) (map_challenges word_of t) (map_messages words word_of sent) last)

    module _ (v : Verdict) where
      pub judged-session : JudgedSession o v → answered ≡ ending_in v
      judged-session J =
          all-judged q s (words x) heard_words declared (fitting J) last (words-below (list_openings o))
          ∙ ap ending_in (verdict_back J.x-length ∙ J.verdict-is)

      pub session-judged : get_or answered 7 Taken ≡ Judged v → JudgedSession o v
      session-judged e =
          let u : Session = after q unopened (hearing s (words x) heard_words declared) in
          let (free, v-is) = gets_verdict q u last v (inr (ap (λ u. (commit_step q u last).answer) (sym (ask_leaves q u last)) ∙ e)) in
          let J = heard-session ((openings-passes q u last).0 free).0.stage_is in
          let same : u ≡ heard_all s (words x) heard_words = hearing-taken q s (words x) heard_words declared (fitting J) in
          subst (λ v. JudgedSession o v) (sym (v-is ∙ ap (λ u. verdict_of q u last) same ∙ verdict_back J.x-length)) J
