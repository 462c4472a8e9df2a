-- The steps of a conversation, in words: nothing refuses those before the openings exactly where sizes are allowed, words are field words,
-- challenges are outside their domains and declared lengths within the table; and then asking and committing answer the verdict. Assumes
-- nothing.
use mathlib.Core.Path.{◌≡◌, refl, ap, ap₂, ◌∙◌}
use mathlib.Core.Logic.{◌↔◌}
use mathlib.Core.Bool.{Bool, true, not, ◌&&◌}
use mathlib.Core.List.{List, [], ◌∷◌, ◌++◌, map}
use mathlib.Core.Option.{Option, none}
use Prim.Native.Nat.{ℕ, zero, suc, ◌-◌, ◌<◌}
use lib.Dec.{eqb, ltb}
use lib.ListN.{length, replicate}
use lib.Seq.{take_at, drop_at}
use borrow.Author.Tests.{eq-eqb, not-true}
use Rattle.algebra.specs.Counting.{All}
use Rattle.algebra.proofs.Counting.{all_append, append_all}
use Rattle.field.specs.Prime.{Prime}
use Rattle.field.specs.Element.{of}
use Rattle.domain.specs.Size.{max_size}
use Rattle.domain.specs.Domain.{inside, Outside}
use Rattle.protocol.specs.Three.{A, B, C, listed}
use Rattle.protocol.specs.Circuit.{Sizes, largest}
use Rattle.protocol.specs.Checks.{Transcript, Openings, list_transcript, list_openings}
use Rattle.protocol.specs.Messages.{MessageLengths, Short}
use Rattle.protocol.specs.Refusals.{Refusal, pairs, six_size_tests}
use Rattle.protocol.specs.Session.{Session, Ask, Commit, unopened, all, after, answers}
use Rattle.protocol.specs.Session.{all_below, public_fits, transcript_fits, left_by_steps, openings_refusal, verdict_of}
use Rattle.protocol.specs.Conversation.{hearing, ending_in}
use Rattle.protocol.proofs.RefusalLaws.{all_true, true-all, and-true, words-below, below-words}
use Rattle.protocol.proofs.FirstWord.{begins-front}
use Rattle.protocol.proofs.UnrefusedSteps.{InTurn, PublicWords}
use Rattle.protocol.proofs.UnrefusedSteps.{open_passes, alpha_passes, eta_passes, beta_passes, delta_passes, gamma_passes, openings-passes}
use Rattle.protocol.proofs.FollowingSteps.{refusals, all-taken, all_risen}

pub all-below : (q : Prime) (ws : List ℕ) → all_below q ws ≡ true ↔ All (λ w. w < q.p) ws
all-below q ws =
    let tests : List Bool = map (λ w. ltb w q.p) ws in
    (λ e. words-below q ws (true-all tests e), λ below. all_true tests (below-words q ws below))

-- a transcript as the steps may leave it
pub record Heard (q : Prime) (s : Sizes) (t : Transcript ℕ) : Type 0 where
  pub α-below : t.α < q.p
  pub η-below : All (λ w. w < q.p) (listed t.sums ++ listed t.η)
  pub β-below : t.β < q.p
  pub δ-below : All (λ w. w < q.p) (listed t.values ++ listed t.δ)
  pub γ-below : t.γ < q.p
  pub α-outside : Outside {q = q} s.|R| (of t.α)
  pub β-outside : Outside {q = q} s.|C| (of t.β)
  pub γ-outside : Outside {q = q} (largest s.|K|) (of t.γ)

module _ (q : Prime) (s : Sizes) (t : Transcript ℕ) where
  abbrev Low : ℕ → Type 0
  Low w = w < q.p

  abbrev fromβ : List ℕ
  fromβ = t.β ∷ (listed t.values ++ (listed t.δ ++ (t.γ ∷ [])))

  -- all its words
  pub heard-below : Heard q s t → All (λ w. w < q.p) (list_transcript t)
  heard-below heard = (
    heard.α-below,
    all_append Low (listed t.sums ++ listed t.η) fromβ heard.η-below
        (heard.β-below, all_append Low (listed t.values ++ listed t.δ) (t.γ ∷ []) heard.δ-below (heard.γ-below, tt)),
  )

  pub transcript-fits : transcript_fits q s t ≡ true ↔ Heard q s t
  unfolding transcript_fits
  transcript-fits =
      let outside : List Bool =
      pairs (λ n y. not (inside {q = q} n y)) (s.|R| ∷ s.|C| ∷ largest s.|K| ∷ []) (of t.α ∷ of t.β ∷ of t.γ ∷ []) in (
        λ e.
            (let (below, tests) = and-true (all_below q (list_transcript t)) (all outside) e in
            let (α, rest) = (all-below q (list_transcript t)).0 below in
            let (η, (β, fromδ)) = append_all Low (listed t.sums ++ listed t.η) fromβ rest in
            let (δ, (γ, _)) = append_all Low (listed t.values ++ listed t.δ) (t.γ ∷ []) fromδ in
            let (outside-α, (outside-β, (outside-γ, _))) = true-all outside tests in
            record {
              α-below = α;
              η-below = η;
              β-below = β;
              δ-below = δ;
              γ-below = γ;
              α-outside = not-true _ outside-α;
              β-outside = not-true _ outside-β;
              γ-outside = not-true _ outside-γ;
            }),
        λ heard.
            ap₂ ◌&&◌ ((all-below q (list_transcript t)).1 (heard-below heard))
            (all_true outside (ap not heard.α-outside, (ap not heard.β-outside, (ap not heard.γ-outside, tt)))),
      )

zeros_pass : (n : ℕ) → All (λ t. t ≡ true) (map (λ w. eqb w 0) (replicate n 0))
zeros_pass zero = tt
zeros_pass (suc n) = (eq-eqb 0 0 refl, zeros_pass n)

-- public words are what steps leave in x, with the zeros that follow them
pub public_fits_lem : (q : Prime) (s : Sizes) (x : List ℕ) → PublicWords q s x → public_fits q s.|X| (x ++ replicate (max_size - length x) 0) ≡ true
unfolding public_fits
public_fits_lem q s x public =
    let zeros : List ℕ = replicate (max_size - length x) 0 in
    ap₂ ◌&&◌ (begins-front x zeros public.x-begins)
    (ap₂ ◌&&◌ (ap (all_below q) (take_at x zeros s.|X| public.x-length) ∙ (all-below q x).1 public.x_below)
    (ap (λ l. all (map (λ w. eqb w 0) l)) (drop_at x zeros s.|X| public.x-length)
    ∙ all_true (map (λ w. eqb w 0) zeros) (zeros_pass (max_size - length x))))

-- the session that the six steps before the openings leave where nothing refuses them
abbrev pub heard_all : Sizes → List ℕ → Transcript ℕ → Session
heard_all s x t = record { stage = 6; sizes = s; x = x ++ replicate (max_size - length x) 0; transcript = t }

-- what is as the table of refusals asks
pub record Fitting (q : Prime) (s : Sizes) (x : List ℕ) (t : Transcript ℕ) (declared : MessageLengths) : Type 0 where
  pub sizes-allowed : All (λ test. test ≡ true) (six_size_tests s)
  pub public : PublicWords q s x
  pub heard : Heard q s t
  pub short : Short s declared

module _ (q : Prime) (s : Sizes) (x : List ℕ) (t : Transcript ℕ) (declared : MessageLengths) where
  free_fitting : All (λ o. o ≡ none) (refusals q unopened (hearing s x t declared)) → Fitting q s x t declared
  free_fitting (opening, (alpha, (eta, (beta, (delta, (gamma, _)))))) =
      let (sized, public) = (open_passes q s x).0 opening in
      let α = (alpha_passes q 1 s _ _ _ _).0 alpha in
      let η = (eta_passes q 2 s _ _).0 eta in
      let β = (beta_passes q 3 s _ _ _).0 beta in
      let (turn, δ, g) = (delta_passes q 4 s _ _ _).0 delta in
      let γ = (gamma_passes q 5 s _ _).0 gamma in
      record {
        sizes-allowed = sized;
        public = public;
        heard =
            record {
              α-below = α.below;
              η-below = η.1;
              β-below = β.below;
              δ-below = δ;
              γ-below = γ.below;
              α-outside = α.outside;
              β-outside = β.outside;
              γ-outside = γ.outside;
            };
        short =
            record {
              witness-short = α.within.0;
              mask-short = α.within.1.0;
              row_quotient-short = α.within.1.1.0;
              line_remainder-short = β.within.0;
              line_quotient-short = β.within.1.0;
              matrix_remainder-short = elim [ A ↦ g.0 | B ↦ g.1.0 | C ↦ g.1.1.0 ];
              joined_quotient-short = γ.within.0;
            };
      }

  module _ (fits : Fitting q s x t declared) where
    turn : (n : ℕ) → InTurn n n s
    turn n = record { stage_is = refl; sizes-allowed = fits.sizes-allowed }

    fitting_free : All (λ o. o ≡ none) (refusals q unopened (hearing s x t declared))
    fitting_free =
        let heard = fits.heard in
        let short = fits.short in
        let g = short.matrix_remainder-short in (
          (open_passes q s x).1 (fits.sizes-allowed, fits.public),
          (
            (alpha_passes q 1 s _ _ _ _).1
                (record {
                  turn = turn 1;
                  below = heard.α-below;
                  outside = heard.α-outside;
                  within = (short.witness-short, (short.mask-short, (short.row_quotient-short, tt)));
                }),
            (
              (eta_passes q 2 s _ _).1 (turn 2, heard.η-below),
              (
                (beta_passes q 3 s _ _ _).1
                    (record {
                      turn = turn 3;
                      below = heard.β-below;
                      outside = heard.β-outside;
                      within = (short.line_remainder-short, (short.line_quotient-short, tt));
                    }),
                (
                  (delta_passes q 4 s _ _ _).1 (turn 4, heard.δ-below, (g A, (g B, (g C, tt)))),
                  (
                    (gamma_passes q 5 s _ _).1
                        (record { turn = turn 5; below = heard.γ-below; outside = heard.γ-outside; within = (short.joined_quotient-short, tt) }),
                    tt,
                  ),
                ),
              ),
            ),
          ),
        )

    pub hearing-taken : after q unopened (hearing s x t declared) ≡ heard_all s x t
    hearing-taken = (all-taken q (hearing s x t declared) unopened fitting_free).0

    left : left_by_steps q (heard_all s x t) ≡ true
    unfolding left_by_steps
    left = ap₂ ◌&&◌ (public_fits_lem q s x fits.public) ((transcript-fits q s t).1 fits.heard)

    pub all-judged : (o : Openings ℕ) → All (λ w. w < q.p) (list_openings o)
        → answers q unopened (hearing s x t declared ++ (Ask o ∷ Commit o ∷ [])) ≡ ending_in (verdict_of q (heard_all s x t) o)
    all-judged o below =
        let refusal : Option Refusal = openings_refusal q (heard_all s x t) o in
        let free : refusal ≡ none = (openings-passes q (heard_all s x t) o).1 (turn 6, left, below) in
        (all-taken q (hearing s x t declared ++ (Ask o ∷ Commit o ∷ [])) unopened
        (all_append (λ r. r ≡ none) (refusals q unopened (hearing s x t declared)) (refusal ∷ refusal ∷ []) fitting_free (free, (free, tt)))).1

  -- six steps take the stage to 6 only where nothing refuses one
  pub risen_fitting : (after q unopened (hearing s x t declared)).stage ≡ 6 → Fitting q s x t declared
  unfolding unopened
  risen_fitting risen = free_fitting ((all_risen q (hearing s x t declared) unopened).1 risen)
