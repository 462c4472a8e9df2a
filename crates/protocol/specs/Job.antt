-- A job: a circuit with an assignment, masks and challenges; its refusal, its proof, and the verifier's session on it
-- (document 01, "The square case": program `prove`). Assumes nothing.
use Rattle.std.specs.Prelude.{List, [], ◌∷◌, ◌++◌, map, ℕ}
use Rattle.std.proofs.Math.Option.{Option}
use Rattle.field.specs.Prime.{Prime}
use Rattle.field.specs.Element.{Elem, of, word_of, words}
use Rattle.domain.specs.Polynomial.{Poly}
use Rattle.protocol.specs.Three.{Three, each, listed, map_three}
use Rattle.protocol.specs.Circuit.{Circuit, sizes_of, public_part}
use Rattle.protocol.specs.Index.{index}
use Rattle.protocol.specs.Checks.{Openings, map_openings}
use Rattle.protocol.specs.Messages.{Messages, map_messages, messages, openings}
use Rattle.protocol.specs.Refusals.{Refusal}
use Rattle.protocol.specs.Admission.{count_tests, assignment_tests, prover_refusal}
use Rattle.protocol.specs.Session.{Answer, unopened, answers}
use Rattle.protocol.specs.Conversation.{Challenges, steps}

-- "|R| |C| |X|; three entry counts; entries of A, B, C; z; r; m; α; η; β; δ; γ", all words
pub record Job : Type 0 where
  pub circuit : Circuit
  pub z : List ℕ
  pub r : ℕ
  pub m : List ℕ
  pub α : ℕ
  pub η : Three ℕ
  pub β : ℕ
  pub δ : Three ℕ
  pub γ : ℕ

abbrev pub challenges : Job → Challenges ℕ
challenges j = record { α = j.α; η = j.η; β = j.β; δ = j.δ; γ = j.γ }

-- the challenge words, and those of them that have a forbidden domain
abbrev pub challenge_words : Job → List ℕ
challenge_words j = j.α ∷ (listed j.η ++ (j.β ∷ (listed j.δ ++ (j.γ ∷ []))))

abbrev pub challenge_points : Job → List ℕ
challenge_points j = j.α ∷ j.β ∷ j.γ ∷ []

module _ (q : Prime) (j : Job) where
  -- the first refusal that applies to the whole job
  unfoldable pub job_refusal : Option Refusal
  job_refusal =
      let c : Circuit = j.circuit in
      prover_refusal q c (count_tests c ++ assignment_tests c j.z j.m) j.z j.r j.m (challenge_words j) (challenge_points j)

  -- the honest prover's messages
  unfoldable pub proof : Messages (Poly q) (Elem q)
  proof = messages j.circuit (map of j.z) (of j.r) (map of j.m) (of j.α) (map_three of j.η) (of j.β) (map_three of j.δ)

  -- the true openings of given messages, with the indexer's polynomials
  unfoldable pub true_openings : Messages (Poly q) (Elem q) → Openings (Elem q)
  true_openings sent = openings sent (each (index j.circuit)) (of j.α) (of j.β) (of j.γ)

  -- the public words x
  unfoldable pub public_words : List ℕ
  public_words = words (public_part {q = q} j.circuit (map of j.z))

  -- the verifier's answers to messages in words, their lengths and openings
  unfoldable pub conversation : Messages (List ℕ) ℕ → Openings ℕ → List Answer
  conversation sent o =
      answers q unopened (steps (sizes_of j.circuit) public_words (challenges j) sent o)

  -- the verifier's answers to messages and openings of elements, and to the honest prover
  unfoldable pub conversation_on : Messages (Poly q) (Elem q) → Openings (Elem q) → List Answer
  conversation_on sent o = conversation (map_messages words word_of sent) (map_openings word_of o)

  unfoldable pub honest_conversation : List Answer
  honest_conversation = conversation_on proof (true_openings proof)
