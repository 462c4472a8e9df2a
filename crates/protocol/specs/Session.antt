-- The verifier's session: its steps (document 01, "Session and verdict"), of which the last splits into asking for the verdict and
-- committing (document 02, request 9). Words at the border are numbers; every definition is total, for sessions that no step made too.
-- Assumes nothing.
use Rattle.std.specs.Prelude.{Bool, true, not, ◌&&◌, List, [], ◌∷◌, ◌++◌, map, ℕ, suc, ◌-◌, eqb, ltb, length, take, drop, replicate}
use Rattle.std.proofs.Math.Option.{Option, none, some}
use Rattle.field.specs.Prime.{Prime}
use Rattle.field.specs.Element.{of}
use Rattle.domain.specs.Size.{max_size}
use Rattle.domain.specs.Domain.{inside}
use Rattle.protocol.specs.Three.{Three, each, listed}
use Rattle.protocol.specs.Circuit.{Sizes, largest}
use Rattle.protocol.specs.Checks.{Transcript, Openings, map_transcript, map_openings, list_transcript, list_openings, withα, withη, withβ, withδ, withγ, Verdict, verdict}
use Rattle.protocol.specs.Messages.{MessageLengths, lengths}
use Rattle.protocol.specs.Refusals.{Refusal, first, pairs, six_size_tests, begins_with_one, turn_refusal, size_refusal, list_refusal, word_refusal, constant_refusal, challenge_refusal, length_refusal}

-- stage: how many steps were taken, asking not counted, so 7 after the commit; x: the public words, and zeros after them up to 1,024
-- words
pub record Session : Type 0 where
  pub stage : ℕ
  pub sizes : Sizes
  pub x : List ℕ
  pub transcript : Transcript ℕ

pub data Answer : Type 0 where
  Taken : Answer
  Judged : Verdict → Answer
  Refused : Refusal → Answer

-- the answer to a step that is not in turn
abbrev pub out_of_turn : Answer
out_of_turn = Refused (record { number = 1; position = 0 })

-- "Each step takes the session and gives back the next one"
pub record Stepped : Type 0 where
  pub session : Session
  pub answer : Answer

-- the transcript before anything is heard
abbrev pub blank : Transcript ℕ
blank =
    let zeros : Three ℕ = each (λ M. 0) in
    record { α = 0; sums = zeros; η = zeros; β = 0; values = zeros; δ = zeros; γ = 0 }

-- a session before it is opened
unfoldable pub unopened : Session
unopened =
    record {
      stage = 0;
      sizes = record { |R| = 0; |C| = 0; |X| = 0; |K| = each (λ M. 0) };
      x = replicate max_size 0;
      transcript = blank;
    }

-- the next session and its answer, or the same session where the step is refused
abbrev pub unless : Option Refusal → Session → Stepped → Stepped
unless none s next = next
unless (some r) s next = record { session = s; answer = Refused r }

-- the session one step on, with the transcript t
abbrev pub onward : Session → Transcript ℕ → Answer → Stepped
onward s t answer = record { session = record { stage = suc s.stage; sizes = s.sizes; x = s.x; transcript = t }; answer = answer }

-- every test passes
abbrev pub all : List Bool → Bool
all [] = true
all (b ∷ l) = b && all l

-- the step after the first n is in turn: n steps were taken, and the sizes are allowed, as opening leaves them
unfoldable pub in_turn : ℕ → ℕ → Sizes → Bool
in_turn n stage s = eqb stage n && all (six_size_tests s)

-- what refuses each step, from the stage and the sizes of the session, in the order of the table
module _ (q : Prime) where
  abbrev pub open_refusals : Sizes → List ℕ → List (Option Refusal)
  open_refusals s x = size_refusal (six_size_tests s) ∷ list_refusal (eqb (length x) s.|X| ∷ []) ∷ word_refusal q x ∷ constant_refusal x ∷ []

  unfoldable pub open_refusal : Sizes → List ℕ → Option Refusal
  open_refusal s x = first (open_refusals s x)

  module _ (stage : ℕ) (s : Sizes) where
    abbrev table : MessageLengths
    table = lengths s

    unfoldable pub alpha_refusal : ℕ → ℕ → ℕ → ℕ → Option Refusal
    alpha_refusal witness mask row_quotient α =
        first
        (turn_refusal (in_turn 1 stage s)
        ∷ word_refusal q (α ∷ [])
        ∷ challenge_refusal {q = q} 0 (s.|R| ∷ []) (of α ∷ [])
        ∷ length_refusal (witness ∷ mask ∷ row_quotient ∷ []) (table.witness ∷ table.mask ∷ table.row_quotient ∷ [])
        ∷ [])

    unfoldable pub eta_refusal : Three ℕ → Three ℕ → Option Refusal
    eta_refusal sums η = first (turn_refusal (in_turn 2 stage s) ∷ word_refusal q (listed sums ++ listed η) ∷ [])

    unfoldable pub beta_refusal : ℕ → ℕ → ℕ → Option Refusal
    beta_refusal line_remainder line_quotient β =
        first
        (turn_refusal (in_turn 3 stage s)
        ∷ word_refusal q (β ∷ [])
        ∷ challenge_refusal {q = q} 1 (s.|C| ∷ []) (of β ∷ [])
        ∷ length_refusal (line_remainder ∷ line_quotient ∷ []) (table.line_remainder ∷ table.line_quotient ∷ [])
        ∷ [])

    unfoldable pub delta_refusal : Three ℕ → Three ℕ → Three ℕ → Option Refusal
    delta_refusal values matrix_remainders δ =
        first
        (turn_refusal (in_turn 4 stage s)
        ∷ word_refusal q (listed values ++ listed δ)
        ∷ length_refusal (listed matrix_remainders) (listed table.matrix_remainders)
        ∷ [])

    unfoldable pub gamma_refusal : ℕ → ℕ → Option Refusal
    gamma_refusal joined_quotient γ =
        first
        (turn_refusal (in_turn 5 stage s)
        ∷ word_refusal q (γ ∷ [])
        ∷ challenge_refusal {q = q} 2 (largest s.|K| ∷ []) (of γ ∷ [])
        ∷ length_refusal (joined_quotient ∷ []) (table.joined_quotient ∷ [])
        ∷ [])

-- what a session holds is what steps leave in it before the openings: in x the public words, of which the first is 1, and zeros after
-- them, and a transcript of field words whose α is outside R, β outside C and γ outside K
module _ (q : Prime) where
  abbrev pub all_below : List ℕ → Bool
  all_below ws = all (map (λ w. ltb w q.p) ws)

  unfoldable pub public_fits : ℕ → List ℕ → Bool
  public_fits n x = begins_with_one x && (all_below (take n x) && all (map (λ w. eqb w 0) (drop n x)))

  unfoldable pub transcript_fits : Sizes → Transcript ℕ → Bool
  transcript_fits s t =
      all_below (list_transcript t)
      && all (pairs (λ n y. not (inside {q = q} n y)) (s.|R| ∷ s.|C| ∷ largest s.|K| ∷ []) (of t.α ∷ of t.β ∷ of t.γ ∷ []))

  unfoldable pub left_by_steps : Session → Bool
  left_by_steps s = public_fits s.sizes.|X| s.x && transcript_fits s.sizes s.transcript

module _ (q : Prime) (s : Session) where
  abbrev t : Transcript ℕ
  t = s.transcript

  -- what refuses openings, asked about or committed: the verdict is given only on what steps leave
  unfoldable pub openings_refusal : Openings ℕ → Option Refusal
  openings_refusal o = first (turn_refusal (in_turn 6 s.stage s.sizes && left_by_steps q s) ∷ word_refusal q (list_openings o) ∷ [])

  -- "open (the six sizes in trailer order, x)"; "opening makes a new session", and is never out of turn
  unfoldable pub open_step : Sizes → List ℕ → Stepped
  open_step n x =
      unless (open_refusal q n x) s
      (record { session = record { stage = 1; sizes = n; x = x ++ replicate (max_size - length x) 0; transcript = blank }; answer = Taken })

  -- "lengths of ŵ, m, h0, then α"
  unfoldable pub alpha_step : ℕ → ℕ → ℕ → ℕ → Stepped
  alpha_step witness mask row_quotient α =
      unless (alpha_refusal q s.stage s.sizes witness mask row_quotient α) s (onward s (withα α t) Taken)

  -- "the three σ, then the three η"
  unfoldable pub eta_step : Three ℕ → Three ℕ → Stepped
  eta_step sums η = unless (eta_refusal q s.stage s.sizes sums η) s (onward s (withη sums η t) Taken)

  -- "lengths of g1, h1, then β"
  unfoldable pub beta_step : ℕ → ℕ → ℕ → Stepped
  beta_step line_remainder line_quotient β =
      unless (beta_refusal q s.stage s.sizes line_remainder line_quotient β) s (onward s (withβ β t) Taken)

  -- "the three ω and lengths of g_M, then the three δ"
  unfoldable pub delta_step : Three ℕ → Three ℕ → Three ℕ → Stepped
  delta_step values matrix_remainders δ =
      unless (delta_refusal q s.stage s.sizes values matrix_remainders δ) s (onward s (withδ values δ t) Taken)

  -- "length of h2, then γ"
  unfoldable pub gamma_step : ℕ → ℕ → Stepped
  gamma_step joined_quotient γ = unless (gamma_refusal q s.stage s.sizes joined_quotient γ) s (onward s (withγ γ t) Taken)

  -- the verdict on openings, where the transcript is whole
  unfoldable pub verdict_of : Openings ℕ → Verdict
  verdict_of o = verdict s.sizes (map (of {q = q}) (take s.sizes.|X| s.x)) (map_transcript of t) (map_openings of o)

  -- document 02, request 9: "asking takes the openings and answers the verdict with the session unchanged"
  unfoldable pub ask_step : Openings ℕ → Stepped
  ask_step o = unless (openings_refusal o) s (record { session = s; answer = Judged (verdict_of o) })

  -- and: "Committing takes openings and ends the session with the verdict that asking would have given for them"
  unfoldable pub commit_step : Openings ℕ → Stepped
  commit_step o = unless (openings_refusal o) s (onward s t (Judged (verdict_of o)))

-- a step with its inputs, and the session after steps that follow each other, refused ones among them
pub data Step : Type 0 where
  Open : Sizes → List ℕ → Step
  Alpha : ℕ → ℕ → ℕ → ℕ → Step
  Eta : Three ℕ → Three ℕ → Step
  Beta : ℕ → ℕ → ℕ → Step
  Delta : Three ℕ → Three ℕ → Three ℕ → Step
  Gamma : ℕ → ℕ → Step
  Ask : Openings ℕ → Step
  Commit : Openings ℕ → Step

module _ (q : Prime) where
  abbrev pub stepped : Session → Step → Stepped
  stepped s (Open n x) = open_step q s n x
  stepped s (Alpha witness mask row_quotient α) = alpha_step q s witness mask row_quotient α
  stepped s (Eta sums η) = eta_step q s sums η
  stepped s (Beta line_remainder line_quotient β) = beta_step q s line_remainder line_quotient β
  stepped s (Delta values matrix_remainders δ) = delta_step q s values matrix_remainders δ
  stepped s (Gamma joined_quotient γ) = gamma_step q s joined_quotient γ
  stepped s (Ask o) = ask_step q s o
  stepped s (Commit o) = commit_step q s o

  abbrev pub after : Session → List Step → Session
  after s [] = s
  after s (step ∷ steps) = after (stepped s step).session steps

  -- the answers to steps that follow each other
  abbrev pub answers : Session → List Step → List Answer
  answers s [] = []
  answers s (step ∷ steps) = (stepped s step).answer ∷ answers (stepped s step).session steps
