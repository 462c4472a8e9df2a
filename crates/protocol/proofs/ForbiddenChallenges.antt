-- Allowed and forbidden challenges (document 02, request 7): a conversation at allowed ones gets a verdict where all else is in order; a
-- forbidden one is refused when it is heard, and then asking and committing are out of turn. Assumes nothing.
use mathlib.Core.Path.{◌≡◌, refl, ap, ◌∙◌, subst}
use mathlib.Core.List.{List, [], ◌∷◌}
use mathlib.Core.Option.{none}
use Prim.Native.Nat.{ℕ}
use lib.ListN.{length, get_or, take}
use native.Mathlib.Omega.{arith}
use Rattle.algebra.proofs.Keeping.{test_fails}
use Rattle.field.specs.Prime.{Prime}
use Rattle.field.specs.Element.{Elem, of, word_of, words}
use Rattle.field.proofs.ElementLaws.{of_word}
use Rattle.domain.specs.Domain.{Outside}
use Rattle.protocol.specs.Circuit.{Circuit, Sizes, sizes_of, largest, BeginsWithOne}
use Rattle.protocol.specs.Checks.{Openings, map_openings}
use Rattle.protocol.specs.Messages.{map_messages, lengths_of, Short}
use Rattle.protocol.specs.Refusals.{Refusal, turn_refusal}
use Rattle.protocol.specs.Admission.{Admitted}
use Rattle.protocol.specs.Session.{Session, Stepped, Step, Alpha, Beta, Gamma, Taken, Judged, Refused, out_of_turn, unopened, in_turn}
use Rattle.protocol.specs.Session.{stepped, after, openings_refusal, ask_step, commit_step}
use Rattle.protocol.specs.Conversation.{Challenges, map_challenges, steps}
use Rattle.protocol.specs.FalseProofs.{Strategy, messages_of, Allowed, opened, answer, RefusedAt, judgement}
use Rattle.protocol.proofs.AdmissionLaws.{admitted_well_formed}
use Rattle.protocol.proofs.UnrefusedSteps.{InTurn, in_turn_lem, alpha_passes, beta_passes, gamma_passes}
use Rattle.protocol.proofs.FollowingSteps.{refusal_of, must_refuse, after_taken, in_step}
use Rattle.protocol.proofs.AskThenCommit.{commit_answers}
use Rattle.protocol.proofs.JudgedSessions.{judged-session, heard-session}
use Rattle.protocol.proofs.Conversation.{six_sizes}

pub allowed-judged :
    {q : Prime} (c : Circuit) → Admitted q c → (x : List (Elem q)) → length x ≡ c.|X| → BeginsWithOne x → (P : Strategy q) (t : Challenges (Elem q))
    → Short (sizes_of c) (lengths_of (messages_of P t)) → Allowed c t
    → (answer c x P t 6 ≡ Judged (judgement c x P t)) × (answer c x P t 7 ≡ Judged (judgement c x P t))
unfolding sizes_of
allowed-judged {q} c admitted x x-length begins P t short (α, β, γ) =
    let all =
    judged-session (sizes_of c) x t (messages_of P t) (opened c x P t) (judgement c x P t)
    (record {
      sizes-allowed = six_sizes q c (admitted_well_formed q c admitted);
      x-length = x-length;
      x-begins = begins;
      short = short;
      α-outside = α;
      β-outside = β;
      γ-outside = γ;
      verdict-is = refl;
    }) in
    (ap (λ l. get_or l 6 Taken) all, ap (λ l. get_or l 7 Taken) all)

-- out of turn, asking and committing are refused by 1
module _ (q : Prime) (u : Session) (o : Openings ℕ) (out : ¬ InTurn 6 u.stage u.sizes) where
  ask_out_of_turn : (ask_step q u o).answer ≡ out_of_turn
  unfolding ask_step openings_refusal turn_refusal
  ask_out_of_turn = rw (test_fails (in_turn 6 u.stage u.sizes) (λ turn. out (in_turn_lem 6 u.stage u.sizes turn)))

  both_out_of_turn : ((ask_step q u o).answer ≡ out_of_turn) × ((commit_step q (ask_step q u o).session o).answer ≡ out_of_turn)
  both_out_of_turn = (ask_out_of_turn, commit_answers q u (o ∷ []) o ∙ ask_out_of_turn)

module _ {q : Prime} (c : Circuit) (x : List (Elem q)) (P : Strategy q) (t : Challenges (Elem q)) where
  abbrev s : Sizes
  s = sizes_of c

  -- the first n of the steps
  abbrev earlier : ℕ → List Step
  earlier n = take n (steps s (words x) (map_challenges word_of t) (map_messages words word_of (messages_of P t)) (map_openings word_of (opened c x P t)))

  -- a step that is taken only in its turn, and with a challenge outside a domain, is refused at the others
  forbidden : (n : ℕ) (step : Step) (k : Sizes → ℕ) (y : Elem q) → length (earlier n) ≡ n → (after_taken q unopened (earlier n)).sizes ≡ s
      → (let u : Session = after q unopened (earlier n) in refusal_of q u step ≡ none → (u.stage ≡ n) × Outside {q = q} (k u.sizes) (of y.word))
      → ¬ Outside (k s) y → (r : Refusal) × ((stepped q (after q unopened (earlier n)) step).answer ≡ Refused r)
  unfolding unopened
  forbidden n step k y count kept heard inside =
      let u : Session = after q unopened (earlier n) in
      let (r, e) = must_refuse q u step (λ free.
      let (stage, outside) = heard free in
      let sizes : u.sizes ≡ s = ap (λ (u : Session). u.sizes) (in_step q (earlier n) unopened (omega arith)) ∙ kept in
      inside (subst (λ y. Outside (k s) y) (of_word y) (subst (λ n. Outside {q = q} (k n) (of y.word)) sizes outside))) in
      (r, ap (λ (r : Stepped). r.answer) e)

  pub forbidden_refused :
      (¬ Outside c.|R| t.α → RefusedAt c x P t 1)
      × (¬ Outside c.|C| t.β → RefusedAt c x P t 3)
      × (¬ Outside (largest (sizes_of c).|K|) t.γ → RefusedAt c x P t 5)
      × (¬ Allowed c t → (answer c x P t 6 ≡ out_of_turn) × (answer c x P t 7 ≡ out_of_turn))
  unfolding sizes_of
  forbidden_refused = (
    forbidden 1 (Alpha _ _ _ _) (λ n. n.|R|) t.α refl refl
        (λ free. let heard = (alpha_passes q _ _ _ _ _ _).0 free in (heard.turn.stage_is, heard.outside)),
    forbidden 3 (Beta _ _ _) (λ n. n.|C|) t.β refl refl
        (λ free. let heard = (beta_passes q _ _ _ _ _).0 free in (heard.turn.stage_is, heard.outside)),
    forbidden 5 (Gamma _ _) (λ n. largest n.|K|) t.γ refl refl
        (λ free. let heard = (gamma_passes q _ _ _ _).0 free in (heard.turn.stage_is, heard.outside)),
    λ out. both_out_of_turn q (after q unopened (earlier 6)) _ (λ turn.
        let J = heard-session s x t (messages_of P t) (opened c x P t) turn.stage_is in
        out (J.α-outside, J.β-outside, J.γ-outside)),
  )
