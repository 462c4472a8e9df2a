-- Document 02, request 2: "Column 0 must hold 1, in z and in x". What the rule is for: no circuit is satisfied by the all-zero
-- assignment, and no session that is opened without the 1 gets to a verdict. And its place in the table: 13 comes after 8 and before 9 in
-- prover calls and jobs, and after 6 in the opening. Statements only; the proofs are in proofs/ConstantColumn. Assumes nothing.
use Rattle.std.specs.Prelude.{◌≡◌, ◌≢◌, Bool, List, [], ◌∷◌, map, ℕ, ◌<◌, get_or}
use Rattle.std.proofs.Math.Option.{Option, none, some}
use Rattle.algebra.specs.Counting.{All}
use Rattle.field.specs.Prime.{Prime}
use Rattle.field.specs.Element.{Elem, of, 𝟘}
use Rattle.domain.specs.Domain.{sum_over}
use Rattle.domain.specs.Polynomial.{eval}
use Rattle.protocol.specs.Circuit.{Circuit, Sizes, Satisfied}
use Rattle.protocol.specs.Checks.{Openings, Verdict}
use Rattle.protocol.specs.Refusals.{Refusal, first, constant_refusal, assignment_refusal}
use Rattle.protocol.specs.Admission.{prover_refusal}
use Rattle.protocol.specs.Session.{Session, Step, Open, Alpha, Eta, Beta, Delta, Gamma, Ask, Commit, Judged, Refused, unopened, open_refusal, open_step, stepped, after}
use Rattle.protocol.specs.Verdicts.{GetsVerdict}

-- a step that does not open a session with an x that begins with 1
abbrev pub OpensWithoutOne : Step → Type 0
OpensWithoutOne (Open n x) = get_or x 0 0 ≢ 1
OpensWithoutOne (Alpha witness mask row_quotient α) = Unit {0}
OpensWithoutOne (Eta sums η) = Unit {0}
OpensWithoutOne (Beta line_remainder line_quotient β) = Unit {0}
OpensWithoutOne (Delta values matrix_remainders δ) = Unit {0}
OpensWithoutOne (Gamma joined_quotient γ) = Unit {0}
OpensWithoutOne (Ask o) = Unit {0}
OpensWithoutOne (Commit o) = Unit {0}

-- for every prime
pub record ConstantColumn (q : Prime) : Type 0 where
  -- "an all-zero assignment satisfies every one of them": it satisfies no circuit
  pub zeros_satisfy_none : (c : Circuit) (z : List (Elem q)) → All (λ a. a ≡ 𝟘) z → ¬ Satisfied c z
  -- 13 and 9 together refuse exactly the assignments of field words that do not satisfy the circuit
  pub satisfied_exactly :
      (c : Circuit) (z : List ℕ) → All (λ w. w < q.p) z
      → let refusal : Option Refusal = first (constant_refusal z ∷ assignment_refusal {q = q} c (map of z) ∷ []) in
      (refusal ≡ none → Satisfied {q = q} c (map of z)) × (Satisfied {q = q} c (map of z) → refusal ≡ none)
  -- an opening without the 1 is refused, and leaves the session as it was
  pub opening_refused :
      (s : Session) (n : Sizes) (x : List ℕ) → get_or x 0 0 ≢ 1 → (r : Refusal) × (open_step q s n x ≡ record { session = s; answer = Refused r })
  -- so from a new session on, whatever the steps, no verdict is answered where none of them opens with the 1
  pub never_judged :
      (steps : List Step) → All OpensWithoutOne steps → (step : Step) → OpensWithoutOne step → (v : Verdict)
      → (stepped q (after q unopened steps) step).answer ≢ Judged v
  -- and a session, whoever made it, answers a verdict only where its x begins with 1
  pub verdict_with_one : (s : Session) (o : Openings ℕ) (v : Verdict) → GetsVerdict q s o v → get_or s.x 0 0 ≡ 1
  -- "just before the assignment check": 9 is answered only where z begins with 1, and 13 only where the mask adds to 0
  pub rows-after-constant :
      (c : Circuit) (lists : List Bool) (z : List ℕ) (r : ℕ) (m challenges points : List ℕ) (f : Refusal)
      → prover_refusal q c lists z r m challenges points ≡ some f → f.number ≡ 9 → get_or z 0 0 ≡ 1
  pub constant-after-mask :
      (c : Circuit) (lists : List Bool) (z : List ℕ) (r : ℕ) (m challenges points : List ℕ) (f : Refusal)
      → prover_refusal q c lists z r m challenges points ≡ some f → f.number ≡ 13 → sum_over c.|C| (eval {q = q} (map of m)) ≡ 𝟘
  -- in the opening 13 is answered only where every word is a field word
  pub constant-after-words : (n : Sizes) (x : List ℕ) (f : Refusal) → open_refusal q n x ≡ some f → f.number ≡ 13 → All (λ w. w < q.p) x
