-- A verdict only at allowed challenges: what is known of a session, whoever made it, when it answers a verdict, and that every session
-- which steps made may have one (document 01, "Session and verdict"). Statements only; the proofs are in proofs/Sessions.
-- Assumes nothing.
use Rattle.std.specs.Prelude.{◌≡◌, ◌⊎◌, true, List, ◌++◌, map, ℕ, ◌<◌, length, take}
use Rattle.algebra.specs.Counting.{All}
use Rattle.field.specs.Prime.{Prime}
use Rattle.field.specs.Element.{of}
use Rattle.domain.specs.Size.{max_size}
use Rattle.domain.specs.Domain.{Outside}
use Rattle.protocol.specs.Circuit.{largest, BeginsWithOne}
use Rattle.protocol.specs.Checks.{Openings, list_transcript, list_openings, Verdict}
use Rattle.protocol.specs.Refusals.{six_size_tests}
use Rattle.protocol.specs.Session.{Session, Step, Judged, unopened, in_turn, left_by_steps, ask_step, commit_step, verdict_of, after}

module _ (q : Prime) where
  -- asking or committing answers the verdict v
  abbrev pub GetsVerdict : Session → Openings ℕ → Verdict → Type 0
  GetsVerdict s o v = ((ask_step q s o).answer ≡ Judged v) ⊎ ((commit_step q s o).answer ≡ Judged v)

  -- what demand 3 asks of sizes, public words and challenges holds of a session and its openings: the sizes are allowed, there are |X|
  -- public words, of which the first is 1, every word is a field word, α is outside R, β outside C and γ outside K
  pub record AllowedVerdict (s : Session) (o : Openings ℕ) (v : Verdict) : Type 0 where
    pub sizes-allowed : All (λ test. test ≡ true) (six_size_tests s.sizes)
    pub public_length : length (take s.sizes.|X| s.x) ≡ s.sizes.|X|
    pub public_constant : BeginsWithOne {q = q} (map of (take s.sizes.|X| s.x))
    pub words-below : All (λ w. w < q.p) (take s.sizes.|X| s.x ++ (list_transcript s.transcript ++ list_openings o))
    pub α-outside : Outside {q = q} s.sizes.|R| (of s.transcript.α)
    pub β-outside : Outside {q = q} s.sizes.|C| (of s.transcript.β)
    pub γ-outside : Outside {q = q} (largest s.sizes.|K|) (of s.transcript.γ)
    pub verdict-is : v ≡ verdict_of q s o

  -- whenever a verdict is answered, for any session of 1,024 words of x: demand 3's conditions hold for what it was about
  abbrev pub VerdictsAllowed : Type 0
  VerdictsAllowed =
      (s : Session) (o : Openings ℕ) (v : Verdict) → length s.x ≡ max_size → GetsVerdict s o v → AllowedVerdict s o v

  -- a session that steps made passes the openings' test whenever it is their turn: the test changes no answer to it
  abbrev pub StepsPass : Type 0
  StepsPass = (steps : List Step) → let s : Session = after q unopened steps in in_turn 6 s.stage s.sizes ≡ true → left_by_steps q s ≡ true

  -- and no other session passes it
  abbrev pub OnlyStepsPass : Type 0
  OnlyStepsPass =
      (s : Session) → length s.x ≡ max_size → in_turn 6 s.stage s.sizes ≡ true → left_by_steps q s ≡ true
      → (steps : List Step) × (after q unopened steps ≡ s)

-- for every prime
pub record Verdicts (q : Prime) : Type 0 where
  pub verdicts_allowed : VerdictsAllowed q
  pub steps_pass : StepsPass q
  pub only_steps_pass : OnlyStepsPass q
