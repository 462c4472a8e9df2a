-- Asking and committing: asking leaves the session, committing gives the same answer, and what it closes stays closed. The proofs of
-- specs/AskThenCommit, but for honest proofs (proofs/Honest). Assumes nothing.
use mathlib.Core.Path.{◌≡◌, refl, sym, ap, ◌∙◌, subst}
use mathlib.Core.Logic.{inl, inr}
use mathlib.Core.List.{List, [], ◌∷◌, map}
use mathlib.Core.Option.{Option, none, some}
use Prim.Native.Nat.{ℕ, suc}
use lib.ListN.{length, replicate}
use native.Mathlib.Omega.{arith}
use Rattle.algebra.specs.Counting.{All}
use Rattle.field.specs.Prime.{Prime}
use Rattle.protocol.specs.Circuit.{Sizes}
use Rattle.protocol.specs.Checks.{Transcript, Openings, Verdict}
use Rattle.protocol.specs.Refusals.{Refusal, turn_refusal}
use Rattle.protocol.specs.Session.{Session, Answer, Stepped, Judged, Refused, out_of_turn, unless, in_turn}
use Rattle.protocol.specs.Session.{Step, Open, Alpha, Eta, Beta, Delta, Gamma, Ask, Commit, stepped, after, answers}
use Rattle.protocol.specs.Session.{alpha_refusal, eta_refusal, beta_refusal, delta_refusal, gamma_refusal, openings_refusal, verdict_of}
use Rattle.protocol.specs.Session.{alpha_step, eta_step, beta_step, delta_step, gamma_step, ask_step, commit_step}
use Rattle.protocol.specs.Verdicts.{GetsVerdict}
use Rattle.protocol.specs.AskThenCommit.{NotOpening, AskingLeaves, AskingAnswers, CommitAnswers, CommitEnds, RefusedLeaves, CommittedClosed}
use Rattle.protocol.proofs.UnrefusedSteps.{openings-passes}
use Rattle.protocol.proofs.FollowingSteps.{judged, free_taken}

-- a step leaves the session where it is refused, and where it does so when it is taken
unless_leaves : (o : Option Refusal) (s : Session) (next : Stepped) → next.session ≡ s → (unless o s next).session ≡ s
unless_leaves none s next same = same
unless_leaves (some r) s next same = refl

-- steps that are refused alike answer alike
unless_alike : (o : Option Refusal) (s : Session) (a b : Stepped) → a.answer ≡ b.answer → (unless o s a).answer ≡ (unless o s b).answer
unless_alike none s a b same = same
unless_alike (some r) s a b same = refl

refused_same : (o : Option Refusal) (s : Session) (next : Stepped) (v : Verdict) (r : Refusal) → next.answer ≡ Judged v
    → (unless o s next).answer ≡ Refused r → (unless o s next).session ≡ s
refused_same none s next v r verdict refused = let z : ◌≡◌ {A = ℕ} 0 1 = cc in absurd (omega arith)
refused_same (some other) s next v r verdict refused = refl

module _ (q : Prime) (s : Session) (o : Openings ℕ) where
  pub ask_leaves : (ask_step q s o).session ≡ s
  unfolding ask_step
  ask_leaves = unless_leaves (openings_refusal q s o) s _ refl

  pub commit_answer : (commit_step q s o).answer ≡ (ask_step q s o).answer
  unfolding ask_step commit_step
  commit_answer = unless_alike (openings_refusal q s o) s _ _ refl

  -- a verdict is answered only where nothing refuses the openings, and it is the verdict on these
  pub gets_verdict : (v : Verdict) → GetsVerdict q s o v → (openings_refusal q s o ≡ none) × (v ≡ verdict_of q s o)
  gets_verdict v (inl e) = let (free, answer) = judged q s (Ask o) v e in (free, cc)
  gets_verdict v (inr e) = let (free, answer) = judged q s (Commit o) v e in (free, cc)

pub commit_ends : (q : Prime) → CommitEnds q
commit_ends q s o v e =
    let (free, _) = gets_verdict q s o v (inr e) in
    let six : s.stage ≡ 6 = ((openings-passes q s o).0 free).0.stage_is in
    ap (λ (r : Stepped). r.session) (free_taken q s (Commit o) free)
    ∙ (λ i. record { stage = suc (six i); sizes = s.sizes; x = s.x; transcript = s.transcript })

pub refused_leaves : (q : Prime) → RefusedLeaves q
unfolding commit_step
refused_leaves q s o r e = refused_same (openings_refusal q s o) s _ (verdict_of q s o) r refl e

pub asking_leaves : (q : Prime) → AskingLeaves q
asking_leaves q s [] = refl
asking_leaves q s (o ∷ asked) = ap (λ u. after q u (map Ask asked)) (ask_leaves q s o) ∙ asking_leaves q s asked

pub asking_answers : (q : Prime) → AskingAnswers q
asking_answers q s [] = refl
asking_answers q s (o ∷ asked) =
    let answer : Answer = (ask_step q s o).answer in
    ap (λ u. answer ∷ answers q u (map Ask asked)) (ask_leaves q s o) ∙ ap (λ l. answer ∷ l) (asking_answers q s asked)

pub commit_answers : (q : Prime) → CommitAnswers q
commit_answers q s asked o = ap (λ u. (commit_step q u o).answer) (asking_leaves q s asked) ∙ commit_answer q s o

-- a session after its commit
module _ (q : Prime) (n : Sizes) (x : List ℕ) (t : Transcript ℕ) where
  abbrev closed : Session
  closed = record { stage = 7; sizes = n; x = x; transcript = t }

  step_closed : (step : Step) → NotOpening step → stepped q closed step ≡ record { session = closed; answer = out_of_turn }
  unfolding alpha_step eta_step beta_step delta_step gamma_step ask_step commit_step alpha_refusal eta_refusal beta_refusal delta_refusal gamma_refusal openings_refusal turn_refusal in_turn
  step_closed (Open n x) other = absurd (other n x refl)
  step_closed (Alpha w m h α) other = refl
  step_closed (Eta σ η) other = refl
  step_closed (Beta g h β) other = refl
  step_closed (Delta ω g δ) other = refl
  step_closed (Gamma h γ) other = refl
  step_closed (Ask o) other = refl
  step_closed (Commit o) other = refl

  steps_closed : (steps : List Step) → All NotOpening steps
      → (after q closed steps ≡ closed) × (answers q closed steps ≡ replicate (length steps) out_of_turn)
  steps_closed [] others = (refl, refl)
  steps_closed (step ∷ steps) others =
      let now = step_closed step others.0 in
      let (session, rest) = steps_closed steps others.1 in (
        ap (λ (r : Stepped). after q r.session steps) now ∙ session,
        ap (λ (r : Stepped). r.answer ∷ answers q r.session steps) now ∙ ap (λ l. out_of_turn ∷ l) rest,
      )

pub committed_closed : (q : Prime) → CommittedClosed q
committed_closed q s o v e steps others =
    subst (λ u. (after q u steps ≡ u) × (answers q u steps ≡ replicate (length steps) out_of_turn)) (sym (commit_ends q s o v e))
    (steps_closed q s.sizes s.x s.transcript steps others)
