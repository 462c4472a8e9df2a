-- Ask for the verdict, then commit (document 02, request 9): what asking leaves and what committing gives. Statements only; the proofs are
-- in proofs/AskThenCommit. Assumes nothing.
use Rattle.std.specs.Prelude.{◌≡◌, ◌≢◌, List, ◌++◌, map, ℕ, length, replicate}
use Rattle.std.proofs.Math.Option.{none}
use Rattle.algebra.specs.Counting.{All}
use Rattle.field.specs.Prime.{Prime}
use Rattle.field.specs.Element.{word_of, words}
use Rattle.domain.specs.Qualifies.{Qualifies}
use Rattle.protocol.specs.Circuit.{Sizes, sizes_of}
use Rattle.protocol.specs.Checks.{Openings, map_openings, Verdict, Accept}
use Rattle.protocol.specs.Messages.{Messages, map_messages}
use Rattle.protocol.specs.Refusals.{Refusal}
use Rattle.protocol.specs.Session.{Session, Step, Open, Ask, Judged, Refused, out_of_turn, unopened, ask_step, commit_step, after, answers}
use Rattle.protocol.specs.Conversation.{hearing_messages}
use Rattle.protocol.specs.Job.{Job, challenges, public_words, job_refusal, proof, true_openings}

-- a step that opens no session
abbrev pub NotOpening : Step → Type 0
NotOpening step = (n : Sizes) (x : List ℕ) → step ≢ Open n x

-- every statement is about all sessions, also those that no step made
module _ (q : Prime) where
  -- "with the session unchanged, as often as wished and with other openings if wished": whatever is asked, refused or not, leaves every
  -- word of the session, and each asking is answered as if it were the only one
  abbrev pub AskingLeaves : Type 0
  AskingLeaves = (s : Session) (asked : List (Openings ℕ)) → after q s (map Ask asked) ≡ s

  abbrev pub AskingAnswers : Type 0
  AskingAnswers = (s : Session) (asked : List (Openings ℕ)) → answers q s (map Ask asked) ≡ map (λ o. (ask_step q s o).answer) asked

  -- "the verdict that asking would have given for them", or the refusal: whatever was asked before, and where nothing was
  abbrev pub CommitAnswers : Type 0
  CommitAnswers =
      (s : Session) (asked : List (Openings ℕ)) (o : Openings ℕ) → (commit_step q (after q s (map Ask asked)) o).answer ≡ (ask_step q s o).answer

  -- "ends the session": the stage is 7, and all else stays
  abbrev pub CommitEnds : Type 0
  CommitEnds =
      (s : Session) (o : Openings ℕ) (v : Verdict) → (commit_step q s o).answer ≡ Judged v
      → (commit_step q s o).session ≡ record { stage = 7; sizes = s.sizes; x = s.x; transcript = s.transcript }

  -- a refused commit ends nothing
  abbrev pub RefusedLeaves : Type 0
  RefusedLeaves = (s : Session) (o : Openings ℕ) (r : Refusal) → (commit_step q s o).answer ≡ Refused r → (commit_step q s o).session ≡ s

  -- "A committed session is closed as before": from then on every step but opening is out of turn, asking too, and leaves the session
  abbrev pub CommittedClosed : Type 0
  CommittedClosed =
      (s : Session) (o : Openings ℕ) (v : Verdict) → (commit_step q s o).answer ≡ Judged v → (steps : List Step) → All NotOpening steps
      → let closed : Session = (commit_step q s o).session in
      (after q closed steps ≡ closed) × (answers q closed steps ≡ replicate (length steps) out_of_turn)

  -- honest proofs are accepted by both, whatever else was asked before
  abbrev pub AcceptedByBoth : Type 0
  AcceptedByBoth =
      (j : Job) → job_refusal q j ≡ none → (asked : List (Openings ℕ))
      → let sent : Messages (List ℕ) ℕ = map_messages words word_of (proof q j) in
      let o : Openings ℕ = map_openings word_of (true_openings q j (proof q j)) in
      let s : Session = after q unopened (hearing_messages (sizes_of j.circuit) (public_words q j) (challenges j) sent ++ map Ask asked) in
      ((ask_step q s o).answer ≡ Judged Accept) × ((commit_step q s o).answer ≡ Judged Accept)

-- for every prime that qualifies
pub record AskThenCommit (q : Prime) : Type 0 where
  pub asking_leaves : AskingLeaves q
  pub asking_answers : AskingAnswers q
  pub commit_answers : CommitAnswers q
  pub commit_ends : CommitEnds q
  pub refused_leaves : RefusedLeaves q
  pub committed_closed : CommittedClosed q
  pub accepted_by_both : AcceptedByBoth q

abbrev pub AskThenCommitHolds : Type 0
AskThenCommitHolds = (q : Prime) → Qualifies q → AskThenCommit q
