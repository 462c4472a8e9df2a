-- Sessions and what steps leave in them: the proofs of specs/Verdicts. Assumes nothing.
use mathlib.Core.Path.{◌≡◌, refl, sym, ap, ap₂, ◌∙◌}
use mathlib.Core.Bool.{Bool, true, ◌&&◌}
use mathlib.Core.List.{List, [], ◌∷◌, ◌++◌, map}
use mathlib.Core.Option.{Option, none, some}
use Prim.Native.Nat.{ℕ, ◌-◌, ◌<◌}
use lib.Dec.{eqb, leb}
use lib.ListN.{length, take, drop, replicate, take-append-drop, length-drop}
use lib.Seq.{length-take-le}
use native.Mathlib.Omega.{arith}
use borrow.Author.Tests.{eqb-true}
use Rattle.algebra.specs.Counting.{All}
use Rattle.algebra.proofs.Counting.{all_append}
use Rattle.field.specs.Prime.{Prime}
use Rattle.field.specs.Element.{of}
use Rattle.domain.specs.Size.{max_size, is_size}
use Rattle.domain.specs.Domain.{Outside}
use Rattle.domain.proofs.SizeLaws.{size_positive, size_bound}
use Rattle.protocol.specs.Three.{A, B, C, Three, each, listed}
use Rattle.protocol.specs.Circuit.{Sizes, largest}
use Rattle.protocol.specs.Checks.{Openings, list_transcript, list_openings}
use Rattle.protocol.specs.Messages.{MessageLengths, Short}
use Rattle.protocol.specs.Refusals.{Refusal, begins_with_one, size_tests, six_size_tests}
use Rattle.protocol.specs.Session.{Session, Stepped, Step, Open, Alpha, Eta, Beta, Delta, Gamma, Ask, Commit, unopened, unless, all}
use Rattle.protocol.specs.Session.{all_below, public_fits, transcript_fits, left_by_steps, stepped, after}
use Rattle.protocol.specs.Session.{open_refusal, alpha_refusal, eta_refusal, beta_refusal, delta_refusal, gamma_refusal, openings_refusal}
use Rattle.protocol.specs.Session.{open_step, alpha_step, eta_step, beta_step, delta_step, gamma_step, ask_step, commit_step}
use Rattle.protocol.specs.Conversation.{hearing}
use Rattle.protocol.specs.Verdicts.{VerdictsAllowed, StepsPass, OnlyStepsPass}
use Rattle.protocol.proofs.RefusalLaws.{and-true, true-all}
use Rattle.protocol.proofs.FirstWord.{first-element, begins-part}
use Rattle.protocol.proofs.UnrefusedSteps.{InTurn, in_turn_lem, PublicWords}
use Rattle.protocol.proofs.UnrefusedSteps.{open_passes, alpha_passes, eta_passes, beta_passes, delta_passes, gamma_passes, openings-passes}
use Rattle.protocol.proofs.AskThenCommit.{gets_verdict}
use Rattle.protocol.proofs.TakenSteps.{all-below, Heard, heard-below, transcript-fits, public_fits_lem, Fitting, hearing-taken}

-- what the openings' test says of a session
pub record LeftBySteps (q : Prime) (s : Session) : Type 0 where
  pub public_begins : begins_with_one s.x ≡ true
  pub public_below : All (λ w. w < q.p) (take s.sizes.|X| s.x)
  pub zeros-after : All (λ t. t ≡ true) (map (λ w. eqb w 0) (drop s.sizes.|X| s.x))
  pub heard : Heard q s.sizes s.transcript

pub left_by_steps_lem : (q : Prime) (s : Session) → left_by_steps q s ≡ true → LeftBySteps q s
unfolding left_by_steps public_fits
left_by_steps_lem q s e =
    let front : List ℕ = take s.sizes.|X| s.x in
    let zeros : List Bool = map (λ w. eqb w 0) (drop s.sizes.|X| s.x) in
    let (public, transcript) = and-true (public_fits q s.sizes.|X| s.x) (transcript_fits q s.sizes s.transcript) e in
    let (begins, fits) = and-true (begins_with_one s.x) (all_below q front && all zeros) public in
    let (below, rest) = and-true (all_below q front) (all zeros) fits in
    record {
      public_begins = begins;
      public_below = (all-below q front).0 below;
      zeros-after = true-all zeros rest;
      heard = (transcript-fits q s.sizes s.transcript).0 transcript;
    }

-- |X| is a size
public_size : (s : Sizes) → All (λ t. t ≡ true) (six_size_tests s) → is_size s.|X| ≡ true
unfolding six_size_tests size_tests
public_size s sized = (and-true (is_size s.|X|) (leb s.|X| s.|C|) sized.1.1.0).0

-- the public words of a session that steps left
left_public : (q : Prime) (s : Session) → length s.x ≡ max_size → All (λ t. t ≡ true) (six_size_tests s.sizes) → LeftBySteps q s
    → PublicWords q s.sizes (take s.sizes.|X| s.x)
left_public q s x-length sized left =
    let size = public_size s.sizes sized in
    record {
      x-length = length-take-le s.sizes.|X| s.x (omega (arith, size_bound s.sizes.|X| size));
      x_below = left.public_below;
      x-begins = begins-part s.sizes.|X| s.x (size_positive s.sizes.|X| size) left.public_begins;
    }

pub verdicts_allowed : (q : Prime) → VerdictsAllowed q
verdicts_allowed q s o v x-length e =
    let (free, verdict) = gets_verdict q s o v e in
    let (turn, passed, below) = (openings-passes q s o).0 free in
    let left = left_by_steps_lem q s passed in
    let public = left_public q s x-length turn.sizes-allowed left in
    let Low : ℕ → Type 0 = λ w. w < q.p in
    record {
      sizes-allowed = turn.sizes-allowed;
      public_length = public.x-length;
      public_constant = first-element q (take s.sizes.|X| s.x) public.x-begins;
      words-below =
          all_append Low (take s.sizes.|X| s.x) (list_transcript s.transcript ++ list_openings o) left.public_below
          (all_append Low (list_transcript s.transcript) (list_openings o) (heard-below q s.sizes s.transcript left.heard) below);
      α-outside = left.heard.α-outside;
      β-outside = left.heard.β-outside;
      γ-outside = left.heard.γ-outside;
      verdict-is = verdict;
    }

-- what steps keep: each part of a session is as its step left it, from that step on
pub record Kept (q : Prime) (s : Session) : Type 0 where
  pub opened : 0 < s.stage → public_fits q s.sizes.|X| s.x ≡ true
  pub α-heard : 1 < s.stage → (s.transcript.α < q.p) × Outside {q = q} s.sizes.|R| (of s.transcript.α)
  pub η-heard : 2 < s.stage → All (λ w. w < q.p) (listed s.transcript.sums ++ listed s.transcript.η)
  pub β-heard : 3 < s.stage → (s.transcript.β < q.p) × Outside {q = q} s.sizes.|C| (of s.transcript.β)
  pub δ-heard : 4 < s.stage → All (λ w. w < q.p) (listed s.transcript.values ++ listed s.transcript.δ)
  pub γ-heard : 5 < s.stage → (s.transcript.γ < q.p) × Outside {q = q} (largest s.sizes.|K|) (of s.transcript.γ)

module _ (q : Prime) where
  kept-unopened : Kept q unopened
  unfolding unopened
  kept-unopened =
      record {
        opened = λ l. absurd (omega arith);
        α-heard = λ l. absurd (omega arith);
        η-heard = λ l. absurd (omega arith);
        β-heard = λ l. absurd (omega arith);
        δ-heard = λ l. absurd (omega arith);
        γ-heard = λ l. absurd (omega arith);
      }

  -- a refused step leaves the session
  kept-unless : (o : Option Refusal) (s : Session) (next : Stepped) → Kept q s → (o ≡ none → Kept q next.session) → Kept q (unless o s next).session
  kept-unless none s next K f = f refl
  kept-unless (some r) s next K f = K

  kept_open : (s : Session) (n : Sizes) (x : List ℕ) → Kept q s → Kept q (open_step q s n x).session
  unfolding open_step
  kept_open s n x K =
      kept-unless (open_refusal q n x) s _ K (λ free.
      record {
        opened = λ l. public_fits_lem q n x ((open_passes q n x).0 free).1;
        α-heard = λ l. absurd (omega arith);
        η-heard = λ l. absurd (omega arith);
        β-heard = λ l. absurd (omega arith);
        δ-heard = λ l. absurd (omega arith);
        γ-heard = λ l. absurd (omega arith);
      })

  module _ (s : Session) (K : Kept q s) where
    abbrev n : Sizes
    n = s.sizes

    kept_alpha : (w m h α : ℕ) → Kept q (alpha_step q s w m h α).session
    unfolding alpha_step
    kept_alpha w m h α =
        kept-unless (alpha_refusal q s.stage n w m h α) s _ K (λ free.
        let heard = (alpha_passes q s.stage n w m h α).0 free in
        record {
          opened = λ l. K.opened (omega arith);
          α-heard = λ l. (heard.below, heard.outside);
          η-heard = λ l. absurd (omega arith);
          β-heard = λ l. absurd (omega arith);
          δ-heard = λ l. absurd (omega arith);
          γ-heard = λ l. absurd (omega arith);
        })

    kept_eta : (σ η : Three ℕ) → Kept q (eta_step q s σ η).session
    unfolding eta_step
    kept_eta σ η =
        kept-unless (eta_refusal q s.stage n σ η) s _ K (λ free.
        let (turn, below) = (eta_passes q s.stage n σ η).0 free in
        record {
          opened = λ l. K.opened (omega arith);
          α-heard = λ l. K.α-heard (omega arith);
          η-heard = λ l. below;
          β-heard = λ l. absurd (omega arith);
          δ-heard = λ l. absurd (omega arith);
          γ-heard = λ l. absurd (omega arith);
        })

    kept_beta : (g h β : ℕ) → Kept q (beta_step q s g h β).session
    unfolding beta_step
    kept_beta g h β =
        kept-unless (beta_refusal q s.stage n g h β) s _ K (λ free.
        let heard = (beta_passes q s.stage n g h β).0 free in
        record {
          opened = λ l. K.opened (omega arith);
          α-heard = λ l. K.α-heard (omega arith);
          η-heard = λ l. K.η-heard (omega arith);
          β-heard = λ l. (heard.below, heard.outside);
          δ-heard = λ l. absurd (omega arith);
          γ-heard = λ l. absurd (omega arith);
        })

    kept_delta : (ω g δ : Three ℕ) → Kept q (delta_step q s ω g δ).session
    unfolding delta_step
    kept_delta ω g δ =
        kept-unless (delta_refusal q s.stage n ω g δ) s _ K (λ free.
        let (turn, below, within) = (delta_passes q s.stage n ω g δ).0 free in
        record {
          opened = λ l. K.opened (omega arith);
          α-heard = λ l. K.α-heard (omega arith);
          η-heard = λ l. K.η-heard (omega arith);
          β-heard = λ l. K.β-heard (omega arith);
          δ-heard = λ l. below;
          γ-heard = λ l. absurd (omega arith);
        })

    kept_gamma : (h γ : ℕ) → Kept q (gamma_step q s h γ).session
    unfolding gamma_step
    kept_gamma h γ =
        kept-unless (gamma_refusal q s.stage n h γ) s _ K (λ free.
        let heard = (gamma_passes q s.stage n h γ).0 free in
        record {
          opened = λ l. K.opened (omega arith);
          α-heard = λ l. K.α-heard (omega arith);
          η-heard = λ l. K.η-heard (omega arith);
          β-heard = λ l. K.β-heard (omega arith);
          δ-heard = λ l. K.δ-heard (omega arith);
          γ-heard = λ l. (heard.below, heard.outside);
        })

    -- asking changes nothing, and committing the stage alone
    kept_ask : (o : Openings ℕ) → Kept q (ask_step q s o).session
    unfolding ask_step
    kept_ask o = kept-unless (openings_refusal q s o) s _ K (λ free. K)

    kept_commit : (o : Openings ℕ) → Kept q (commit_step q s o).session
    unfolding commit_step
    kept_commit o =
        kept-unless (openings_refusal q s o) s _ K (λ free.
        let turn = ((openings-passes q s o).0 free).0 in
        record {
          opened = λ l. K.opened (omega arith);
          α-heard = λ l. K.α-heard (omega arith);
          η-heard = λ l. K.η-heard (omega arith);
          β-heard = λ l. K.β-heard (omega arith);
          δ-heard = λ l. K.δ-heard (omega arith);
          γ-heard = λ l. K.γ-heard (omega arith);
        })

  kept_step : (s : Session) (step : Step) → Kept q s → Kept q (stepped q s step).session
  kept_step s (Open n x) K = kept_open s n x K
  kept_step s (Alpha w m h α) K = kept_alpha s K w m h α
  kept_step s (Eta σ η) K = kept_eta s K σ η
  kept_step s (Beta g h β) K = kept_beta s K g h β
  kept_step s (Delta ω g δ) K = kept_delta s K ω g δ
  kept_step s (Gamma h γ) K = kept_gamma s K h γ
  kept_step s (Ask o) K = kept_ask s K o
  kept_step s (Commit o) K = kept_commit s K o

  kept-steps : (steps : List Step) (s : Session) → Kept q s → Kept q (after q s steps)
  kept-steps [] s K = K
  kept-steps (step ∷ steps) s K = kept-steps steps (stepped q s step).session (kept_step s step K)

  -- a whole transcript passes the test
  kept-passes : (s : Session) → Kept q s → s.stage ≡ 6 → left_by_steps q s ≡ true
  unfolding left_by_steps
  kept-passes s K stage =
      let α = K.α-heard (omega arith) in
      let β = K.β-heard (omega arith) in
      let γ = K.γ-heard (omega arith) in
      ap₂ ◌&&◌ (K.opened (omega arith))
      ((transcript-fits q s.sizes s.transcript).1
      (record {
        α-below = α.0;
        η-below = K.η-heard (omega arith);
        β-below = β.0;
        δ-below = K.δ-heard (omega arith);
        γ-below = γ.0;
        α-outside = α.1;
        β-outside = β.1;
        γ-outside = γ.1;
      }))

pub steps_pass : (q : Prime) → StepsPass q
steps_pass q steps turn =
    let s : Session = after q unopened steps in
    kept-passes q s (kept-steps q steps unopened (kept-unopened q)) (in_turn_lem 6 s.stage s.sizes turn).stage_is

-- words that all are 0
zeros_are : (l : List ℕ) → All (λ t. t ≡ true) (map (λ w. eqb w 0) l) → l ≡ replicate (length l) 0
zeros_are [] h = refl
zeros_are (w ∷ l) h = ap₂ ◌∷◌ (eqb-true w 0 h.0) (zeros_are l h.1)

-- lengths of 0 are within every table
abbrev nothing : MessageLengths
nothing =
    record {
      witness = 0;
      mask = 0;
      row_quotient = 0;
      line_remainder = 0;
      line_quotient = 0;
      matrix_remainders = each (λ M. 0);
      joined_quotient = 0;
    }

nothing_short : (s : Sizes) → Short s nothing
nothing_short s =
    record {
      witness-short = omega arith;
      mask-short = omega arith;
      row_quotient-short = omega arith;
      line_remainder-short = omega arith;
      line_quotient-short = omega arith;
      matrix_remainder-short = elim [ A ↦ omega arith | B ↦ omega arith | C ↦ omega arith ];
      joined_quotient-short = omega arith;
    }

pub only_steps_pass : (q : Prime) → OnlyStepsPass q
only_steps_pass q s x-length turn passes =
    let n : Sizes = s.sizes in
    let x : List ℕ = take n.|X| s.x in
    let rest : List ℕ = drop n.|X| s.x in
    let now : InTurn 6 s.stage n = in_turn_lem 6 s.stage n turn in
    let left : LeftBySteps q s = left_by_steps_lem q s passes in
    let public : PublicWords q n x = left_public q s x-length now.sizes-allowed left in
    let fits : Fitting q n x s.transcript nothing =
    record { sizes-allowed = now.sizes-allowed; public = public; heard = left.heard; short = nothing_short n } in
    let size : max_size - length x ≡ length rest = omega (arith, length-drop n.|X| s.x, public.x-length) in
    let whole : x ++ replicate (max_size - length x) 0 ≡ s.x =
    ap (λ zeros. x ++ zeros) (ap (λ k. replicate k 0) size ∙ sym (zeros_are rest left.zeros-after)) ∙ take-append-drop n.|X| s.x in (
      hearing n x s.transcript nothing,
      hearing-taken q n x s.transcript nothing fits
          ∙ (λ i. record { stage = sym now.stage_is i; sizes = n; x = whole i; transcript = s.transcript }),
    )
