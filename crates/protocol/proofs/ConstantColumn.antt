-- Column 0 is the constant: the proofs of specs/ConstantColumn. Assumes nothing.
use mathlib.Core.Path.{◌≡◌, refl, sym, ◌∙◌, subst}
use mathlib.Core.Logic.{◌≢◌, inl, inr}
use mathlib.Core.Bool.{Bool}
use mathlib.Core.List.{List, [], ◌∷◌, ◌++◌, map, tail}
use mathlib.Core.Option.{Option, none, some}
use Prim.Native.Nat.{ℕ, ◌<◌}
use lib.Dec.{eqb, ltb}
use lib.ListN.{length, get_or}
use native.Mathlib.Omega.{arith}
use borrow.Author.Tests.{eqb-true}
use Rattle.algebra.specs.Counting.{All}
use Rattle.field.specs.Prime.{Prime}
use Rattle.field.specs.Element.{Elem, of, 𝟘, equal}
use Rattle.field.proofs.ElementLaws.{one_not_zero}
use Rattle.field.proofs.Field.{equal-true}
use Rattle.domain.specs.Domain.{sum_over}
use Rattle.domain.specs.Polynomial.{eval}
use Rattle.protocol.specs.Circuit.{Circuit, Sizes}
use Rattle.protocol.specs.Checks.{Transcript, Openings, Verdict, withα, withη, withβ, withδ, withγ}
use Rattle.protocol.specs.Refusals.{Refusal, first, begins_with_one, six_size_tests}
use Rattle.protocol.specs.Refusals.{size_refusal, list_refusal, word_refusal, mask_refusal, constant_refusal, assignment_refusal}
use Rattle.protocol.specs.Admission.{refusals_after_circuit, prover_refusal}
use Rattle.protocol.specs.Session.{Session, Stepped, Answer, Taken, Judged, Refused, Step, Open, Alpha, Eta, Beta, Delta, Gamma, Ask, Commit, unopened, unless, onward}
use Rattle.protocol.specs.Session.{open_refusals, open_refusal, alpha_refusal, eta_refusal, beta_refusal, delta_refusal, gamma_refusal, openings_refusal, verdict_of}
use Rattle.protocol.specs.Session.{open_step, alpha_step, eta_step, beta_step, delta_step, gamma_step, commit_step, stepped, after}
use Rattle.protocol.specs.Verdicts.{GetsVerdict}
use Rattle.protocol.specs.ConstantColumn.{OpensWithoutOne, ConstantColumn}
use Rattle.protocol.proofs.RefusalLaws.{first-none, none_first, words-below, past, past_circuit}
use Rattle.protocol.proofs.AdmissionLaws.{rows-satisfied, satisfied-rows}
use Rattle.protocol.proofs.UnrefusedSteps.{open_passes, openings-passes}
use Rattle.protocol.proofs.FollowingSteps.{must_refuse}
use Rattle.protocol.proofs.AskThenCommit.{ask_leaves, gets_verdict}
use Rattle.protocol.proofs.Sessions.{left_by_steps_lem}

-- the first of zeros, or of no elements, is 0
first-is-zero : {q : Prime} (z : List (Elem q)) → All (λ a. a ≡ 𝟘) z → get_or z 0 𝟘 ≡ 𝟘
first-is-zero [] zeros = refl
first-is-zero (a ∷ z) zeros = zeros.0

-- x does not begin with 1
abbrev WithoutOne : Session → Type 0
WithoutOne s = get_or s.x 0 0 ≢ 1

-- after a step: no verdict was answered, and x still does not begin with 1
abbrev Quiet : Stepped → Type 0
Quiet r = WithoutOne r.session × ((v : Verdict) → r.answer ≢ Judged v)

refused_quiet : (s : Session) (r : Refusal) → WithoutOne s → Quiet (record { session = s; answer = Refused r })
refused_quiet s r without = (without, λ v e. let z : ◌≡◌ {A = ℕ} 0 1 = cc in omega arith)

heard_quiet : (o : Option Refusal) (s : Session) (t : Transcript ℕ) → WithoutOne s → Quiet (unless o s (onward s t Taken))
heard_quiet none s t without = (without, λ v e. let z : ◌≡◌ {A = ℕ} 0 1 = cc in omega arith)
heard_quiet (some r) s t without = refused_quiet s r without

same_x : (o : Option Refusal) (s : Session) (t : Transcript ℕ) (a : Answer) → (unless o s (onward s t a)).session.x ≡ s.x
same_x none s t a = refl
same_x (some r) s t a = refl

module _ (q : Prime) where
  opening_refused :
      (s : Session) (n : Sizes) (x : List ℕ) → get_or x 0 0 ≢ 1 → (r : Refusal) × (open_step q s n x ≡ record { session = s; answer = Refused r })
  opening_refused s n x other =
      must_refuse q s (Open n x) (λ free. other (eqb-true (get_or x 0 0) 1 ((open_passes q n x).0 free).1.x-begins))

  verdict_with_one : (s : Session) (o : Openings ℕ) (v : Verdict) → GetsVerdict q s o v → get_or s.x 0 0 ≡ 1
  verdict_with_one s o v e =
      eqb-true (get_or s.x 0 0) 1 (left_by_steps_lem q s ((openings-passes q s o).0 (gets_verdict q s o v e).0).1).public_begins

  step_quiet : (s : Session) (step : Step) → OpensWithoutOne step → WithoutOne s → Quiet (stepped q s step)
  unfolding alpha_step eta_step beta_step delta_step gamma_step commit_step
  step_quiet s (Open n x) other without =
      let (r, same) = opening_refused s n x other in
      subst (λ (u : Stepped). Quiet u) (sym same) (refused_quiet s r without)
  step_quiet s (Alpha w m h α) other without = heard_quiet (alpha_refusal q s.stage s.sizes w m h α) s (withα α s.transcript) without
  step_quiet s (Eta σ η) other without = heard_quiet (eta_refusal q s.stage s.sizes σ η) s (withη σ η s.transcript) without
  step_quiet s (Beta g h β) other without = heard_quiet (beta_refusal q s.stage s.sizes g h β) s (withβ β s.transcript) without
  step_quiet s (Delta ω g δ) other without = heard_quiet (delta_refusal q s.stage s.sizes ω g δ) s (withδ ω δ s.transcript) without
  step_quiet s (Gamma h γ) other without = heard_quiet (gamma_refusal q s.stage s.sizes h γ) s (withγ γ s.transcript) without
  step_quiet s (Ask o) other without = (
    subst (λ u. WithoutOne u) (sym (ask_leaves q s o)) without,
    λ v e. without (verdict_with_one s o v (inl e)),
  )
  step_quiet s (Commit o) other without = (
    subst (λ x. get_or x 0 0 ≢ 1) (sym (same_x (openings_refusal q s o) s s.transcript (Judged (verdict_of q s o)))) without,
    λ v e. without (verdict_with_one s o v (inr e)),
  )

  steps_quiet : (steps : List Step) (s : Session) → All OpensWithoutOne steps → WithoutOne s → WithoutOne (after q s steps)
  steps_quiet [] s others without = without
  steps_quiet (step ∷ steps) s others without = steps_quiet steps (stepped q s step).session others.1 (step_quiet s step others.0 without).0

  unopened_without : WithoutOne unopened
  unfolding unopened
  unopened_without e = omega arith

  module _ (c : Circuit) (lists : List Bool) (z : List ℕ) (r : ℕ) (m challenges points : List ℕ) (f : Refusal)
      (refusal : prover_refusal q c lists z r m challenges points ≡ some f) where
    -- the rows 4 to 7 are past
    after-circuit : 7 < f.number → first (refusals_after_circuit q c z m points) ≡ some f
    unfolding prover_refusal
    after-circuit later =
        (past_circuit q c lists (z ++ (r ∷ (m ++ challenges))) (refusals_after_circuit q c z m points) f refusal later).1

    -- 8 is past: the mask adds to 0, and the refusal is one of the rows after it
    after-mask : 8 < f.number → (sum_over c.|C| (eval {q = q} (map of m)) ≡ 𝟘) × (first (tail (refusals_after_circuit q c z m points)) ≡ some f)
    unfolding mask_refusal
    after-mask later =
        let sum : Elem q = sum_over c.|C| (eval (map of m)) in
        let (passes, rest) =
        past 8 0 (equal sum 𝟘 ∷ []) (tail (refusals_after_circuit q c z m points)) f (after-circuit (omega arith)) (λ e. omega arith) in
        (equal-true sum 𝟘 passes.0, rest)

    rows-after-constant : f.number ≡ 9 → get_or z 0 0 ≡ 1
    unfolding constant_refusal
    rows-after-constant nine =
        eqb-true (get_or z 0 0) 1
        (past 13 0 (begins_with_one z ∷ []) (tail (tail (refusals_after_circuit q c z m points))) f (after-mask (omega arith)).1 (λ e. omega arith)).0.0

  constant-after-words : (n : Sizes) (x : List ℕ) (f : Refusal) → open_refusal q n x ≡ some f → f.number ≡ 13 → All (λ w. w < q.p) x
  unfolding open_refusal size_refusal list_refusal word_refusal
  constant-after-words n x f refusal thirteen =
      let rows : List (Option Refusal) = open_refusals q n x in
      let from5 = (past 4 0 (six_size_tests n) (tail rows) f refusal (λ e. omega arith)).1 in
      let from6 = (past 5 0 (eqb (length x) n.|X| ∷ []) (tail (tail rows)) f from5 (λ e. omega arith)).1 in
      words-below q x (past 6 0 (map (λ w. ltb w q.p) x) (tail (tail (tail rows))) f from6 (λ e. omega arith)).0

pub constant-column : (q : Prime) → ConstantColumn q
constant-column q =
    record {
      zeros_satisfy_none = λ c z zeros satisfied. one_not_zero (sym satisfied.constant ∙ first-is-zero z zeros);
      satisfied_exactly = λ c z below. (
        λ free. let rows = first-none (constant_refusal z ∷ assignment_refusal {q = q} c (map of z) ∷ []) free in rows-satisfied q c z rows.0 rows.1.0,
        λ satisfied.
            (let (constant, rows) = satisfied-rows q c z below satisfied in
            none_first (constant_refusal z ∷ assignment_refusal {q = q} c (map of z) ∷ []) (constant, (rows, tt))),
      );
      opening_refused = opening_refused q;
      never_judged = λ steps others step other v.
          (step_quiet q (after q unopened steps) step other (steps_quiet q steps unopened others (unopened_without q))).1 v;
      verdict_with_one = verdict_with_one q;
      rows-after-constant = λ c lists z r m challenges points f refusal. rows-after-constant q c lists z r m challenges points f refusal;
      constant-after-mask = λ c lists z r m challenges points f refusal thirteen.
          (after-mask q c lists z r m challenges points f refusal (omega arith)).0;
      constant-after-words = constant-after-words q;
    }
