-- The verifier's session on a job that is let through: messages within the lengths of the table are taken at every step, and asking
-- and committing answer the verdict on them and on the openings. Assumes nothing.
use mathlib.Core.Path.{◌≡◌, refl, sym, ap, ap₂, ◌∙◌}
use mathlib.Core.Bool.{true, ◌&&◌}
use mathlib.Core.List.{List, [], ◌∷◌, ◌++◌, map}
use Prim.Native.Nat.{ℕ, ◌<◌}
use borrow.Author.Tests.{le-leb}
use Rattle.algebra.specs.Counting.{All}
use Rattle.algebra.proofs.Counting.{append_all}
use Rattle.algebra.proofs.PolynomialLaws.{length-tabulate}
use Rattle.field.specs.Prime.{Prime}
use Rattle.field.specs.Element.{Elem, of, word_of, words}
use Rattle.field.proofs.Words.{word-of}
use Rattle.domain.specs.Polynomial.{Poly}
use Rattle.protocol.specs.Three.{A, B, C, Three, listed, map_three}
use Rattle.protocol.specs.Circuit.{Circuit, sizes_of, public_part}
use Rattle.protocol.specs.Checks.{Openings, map_openings, verdict}
use Rattle.protocol.specs.Messages.{Messages, map_messages, lengths_of, Short}
use Rattle.protocol.specs.Refusals.{size_tests, six_size_tests}
use Rattle.protocol.specs.Session.{unopened, answers}
use Rattle.protocol.specs.Conversation.{Challenges, map_challenges, steps, transcript_of, ending_in}
use Rattle.protocol.specs.Job.{Job, challenges, challenge_words, public_words, conversation, conversation_on}
use Rattle.protocol.proofs.AdmissionLaws.{WellFormed, JobFits}
use Rattle.protocol.proofs.IndexPolynomials.{K-size}
use Rattle.protocol.proofs.PublicColumns.{public_first}
use Rattle.protocol.proofs.JudgedSessions.{judged-session}

-- the sizes of a circuit that is let through
pub six_sizes : (q : Prime) (c : Circuit) → WellFormed q.p c → All (λ t. t ≡ true) (six_size_tests (sizes_of c))
unfolding six_size_tests size_tests sizes_of
six_sizes q c W = (W.R-size, (W.C-size, (ap₂ ◌&&◌ W.X-size (le-leb c.|X| c.|C| W.X-within), (K-size c A, (K-size c B, (K-size c C, tt))))))

-- a job's challenges as elements
abbrev pub drawn : (q : Prime) → Job → Challenges (Elem q)
drawn q j = map_challenges of (challenges j)

module _ (q : Prime) (j : Job) (F : JobFits q j) where
  abbrev c : Circuit
  c = j.circuit

  abbrev x : List (Elem q)
  x = public_part c (map of j.z)

  abbrev t : Challenges (Elem q)
  t = drawn q j

  three-words : (t : Three ℕ) → All (λ w. w < q.p) (listed t) → map_three word_of (map_three (of {q = q}) t) ≡ t
  three-words t (a, (b, (c, _))) = λ i. record { a = word-of q t.a a i; b = word-of q t.b b i; c = word-of q t.c c i }

  drawn-words : map_challenges word_of t ≡ challenges j
  drawn-words =
      let Low : ℕ → Type 0 = λ w. w < q.p in
      let (_, (_, fromm)) = append_all Low j.z (j.r ∷ (j.m ++ challenge_words j)) F.words_fit in
      let (_, (α, fromη)) = append_all Low j.m (challenge_words j) fromm in
      let (η, (β, fromδ)) = append_all Low (listed j.η) (j.β ∷ (listed j.δ ++ (j.γ ∷ []))) fromη in
      let (δ, (γ, _)) = append_all Low (listed j.δ) (j.γ ∷ []) fromδ in
      λ i.
      record {
        α = word-of q j.α α i;
        η = three-words j.η η i;
        β = word-of q j.β β i;
        δ = three-words j.δ δ i;
        γ = word-of q j.γ γ i;
      }

  pub conversation-judged : (sent : Messages (Poly q) (Elem q)) → Short (sizes_of c) (lengths_of sent) → (o : Openings (Elem q))
      → conversation_on q j sent o ≡ ending_in (verdict (sizes_of c) x (transcript_of t sent) o)
  unfolding conversation_on conversation public_words public_part sizes_of
  conversation-judged sent short o =
      ap (λ t. answers q unopened (steps (sizes_of c) (words x) t (map_messages words word_of sent) (map_openings word_of o))) (sym drawn-words)
      ∙ judged-session (sizes_of c) x t sent o (verdict (sizes_of c) x (transcript_of t sent) o)
      (record {
        sizes-allowed = six_sizes q c F.circuit-fits;
        x-length = length-tabulate c.|X| _;
        x-begins = public_first c F.circuit-fits (map of j.z) ∙ F.satisfied.constant;
        short = short;
        α-outside = F.α-outside;
        β-outside = F.β-outside;
        γ-outside = F.γ-outside;
        verdict-is = refl;
      })
