-- Document 02, request 1: what the public inverse answers, and "Prover and verifier never meet that answer, since their divisors are
-- nonzero for allowed challenges": each place where a definition divides, for every circuit that the table of refusals lets through and all
-- allowed challenges. Statements only; the proofs are in proofs/Divisors. Assumes nothing.
use Rattle.std.specs.Prelude.{◌≡◌, ◌≢◌, ℕ, ◌≤◌, ◌<◌, length}
use Rattle.std.proofs.Math.Option.{none}
use Rattle.field.specs.Prime.{Prime}
use Rattle.field.specs.Element.{Elem, of, 𝟘, 𝟙, ◌⊗◌, ◌⊖◌}
use Rattle.field.specs.Power.{inverse}
use Rattle.domain.specs.Size.{max_size}
use Rattle.domain.specs.Domain.{element, vanishing, Outside}
use Rattle.domain.specs.Polynomial.{eval}
use Rattle.domain.specs.Qualifies.{Qualifies}
use Rattle.protocol.specs.Three.{MatrixName, at}
use Rattle.protocol.specs.Circuit.{Circuit, Sizes, sizes_of, largest}
use Rattle.protocol.specs.Index.{index}
use Rattle.protocol.specs.Checks.{Openings, Verdict}
use Rattle.protocol.specs.Messages.{denominator}
use Rattle.protocol.specs.Refusals.{Done, Refused, six_size_tests, size_refusal}
use Rattle.protocol.specs.Admission.{Admitted}
use Rattle.protocol.specs.Session.{Session}
use Rattle.protocol.specs.Verdicts.{GetsVerdict}
use Rattle.protocol.specs.Calls.{inverse_call}

module _ {q : Prime} where
  -- what L_a(y) divides by off the domain of size n, at element i for a
  abbrev pub lagrange_divisor : ℕ → ℕ → Elem q → Elem q
  lagrange_divisor n i y = of n ⊗ (y ⊖ element n i)

  -- the verifier's divisors: six allowed sizes, β outside C and γ outside K
  pub record VerifierDivisors (s : Sizes) (β γ : Elem q) : Type 0 where
    -- x̂ interpolates on X; its value at β is a sum of L_i(β)
    pub X : of s.|X| ≢ 𝟘 {q = q}
    pub public_lagrange : (i : ℕ) → i < s.|X| → lagrange_divisor s.|X| i β ≢ 𝟘
    -- Line: σ/|C|
    pub C : of s.|C| ≢ 𝟘 {q = q}
    -- Matrix: ω_M/|K_M|, and s_M = |K_M| v_K(γ) / (|K| v_{K_M}(γ))
    pub K-each : (M : MatrixName) → of (at s.|K| M) ≢ 𝟘 {q = q}
    pub K-largest : of (largest s.|K|) ≢ 𝟘 {q = q}
    pub vanishing-each : (M : MatrixName) → vanishing (at s.|K| M) γ ≢ 𝟘
    pub selector : (M : MatrixName) → of (largest s.|K|) ⊗ vanishing (at s.|K| M) γ ≢ 𝟘

  -- the prover's: a circuit that is let through, α outside R and β outside C
  pub record ProverDivisors (c : Circuit) (α β : Elem q) : Type 0 where
    -- interpolation on R, C, X and the K_M; |K_M|/|K|
    pub R : of c.|R| ≢ 𝟘 {q = q}
    pub C : of c.|C| ≢ 𝟘 {q = q}
    pub X : of c.|X| ≢ 𝟘 {q = q}
    pub K-each : (M : MatrixName) → of (at (sizes_of c).|K| M) ≢ 𝟘 {q = q}
    pub K-largest : of (largest (sizes_of c).|K|) ≢ 𝟘 {q = q}
    -- L_row(α) and L_col(β) of M̂(α,β)
    pub row-lagrange : (i : ℕ) → i < c.|R| → lagrange_divisor c.|R| i α ≢ 𝟘
    pub column-lagrange : (i : ℕ) → i < c.|C| → lagrange_divisor c.|C| i β ≢ 𝟘
    -- a_M/b_M on K_M
    pub denominators :
        (M : MatrixName) (i : ℕ) → i < at (sizes_of c).|K| M → eval (denominator c α β M) (element (at (sizes_of c).|K| M) i) ≢ 𝟘

-- the indexer's, and those of the entries read back: no challenge is drawn yet
pub record IndexDivisors (q : Prime) (c : Circuit) : Type 0 where
  -- interpolation on K_M
  pub K-each : (M : MatrixName) → of (at (sizes_of c).|K| M) ≢ 𝟘 {q = q}
  -- an entry's value is rowcolval_M/rowcol_M on K_M
  pub rowcol :
      (M : MatrixName) (i : ℕ) → i < at (sizes_of c).|K| M → eval (index c M).rowcol (element (at (sizes_of c).|K| M) i) ≢ 𝟘 {q = q}

-- for an outside caller: 6 for a word of p or more, then 12 for 0, else the word whose product with a is 1
pub record InverseAnswers (q : Prime) : Type 0 where
  pub refuses_word : (a : ℕ) → q.p ≤ a → inverse_call q a ≡ Refused (record { number = 6; position = 0 })
  pub refuses_zero : inverse_call q 0 ≡ Refused (record { number = 12; position = 0 })
  pub inverts : (a : ℕ) → 0 < a → a < q.p → (i : Elem q) × (inverse_call q a ≡ Done i.word) × (of a ⊗ i ≡ 𝟙)

-- only 0 has no inverse, and no divisor is 0
pub record Divisors (q : Prime) : Type 0 where
  pub answers : InverseAnswers q
  pub none_is_zero : (a : Elem q) → inverse a ≡ none → a ≡ 𝟘
  pub verifier :
      (s : Sizes) → size_refusal (six_size_tests s) ≡ none → (β γ : Elem q) → Outside s.|C| β → Outside (largest s.|K|) γ → VerifierDivisors s β γ
  -- and so wherever a session answers a verdict, whoever made it
  pub judged :
      (s : Session) (o : Openings ℕ) (v : Verdict) → length s.x ≡ max_size → GetsVerdict q s o v
      → VerifierDivisors {q = q} s.sizes (of s.transcript.β) (of s.transcript.γ)
  pub prover : (c : Circuit) → Admitted q c → (α β : Elem q) → Outside c.|R| α → Outside c.|C| β → ProverDivisors c α β
  pub indexer : (c : Circuit) → Admitted q c → IndexDivisors q c

-- for every prime that qualifies
abbrev pub DivisorsHold : Type 0
DivisorsHold = (q : Prime) → Qualifies q → Divisors q
