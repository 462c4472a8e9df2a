-- What the public inverse answers; and prover, indexer and verifier divide by nothing that is 0. Assumes nothing.
use mathlib.Core.Path.{◌≡◌, refl}
use mathlib.Core.Logic.{◌≢◌}
use mathlib.Core.Bool.{true}
use mathlib.Core.Option.{none}
use Prim.Native.Nat.{ℕ, ◌<◌}
use lib.Dec.{ltb}
use borrow.Author.Tests.{lt-ltb, le-ltb}
use native.Mathlib.Omega.{arith}
use Rattle.field.specs.Prime.{Prime}
use Rattle.field.specs.Element.{Elem, of, 𝟘}
use Rattle.field.specs.Power.{reciprocal}
use Rattle.field.proofs.ElementLaws.{of-not-zero}
use Rattle.field.proofs.Field.{mul-reciprocal, inverse-zero, inverse_other, none_is_zero}
use Rattle.domain.specs.Size.{is_size}
use Rattle.domain.specs.Domain.{element, Outside}
use Rattle.domain.specs.Qualifies.{Qualifies}
use Rattle.domain.proofs.SizeLaws.{size_not-zero}
use Rattle.domain.proofs.DomainLaws.{inside-element, vanishing-outside, outside_subgroup}
use Rattle.domain.proofs.Divisors.{lagrange_divisor_lem, selector_divisor}
use Rattle.protocol.specs.Circuit.{Circuit, Sizes, largest}
use Rattle.protocol.specs.Refusals.{six_size_tests, size_refusal, word_refusal}
use Rattle.protocol.specs.Admission.{Admitted}
use Rattle.protocol.specs.Calls.{inverse_call}
use Rattle.protocol.specs.Divisors.{lagrange_divisor, VerifierDivisors, ProverDivisors, InverseAnswers, DivisorsHold}
use Rattle.protocol.proofs.RefusalLaws.{refuse-none, none-refuse, all_true}
use Rattle.protocol.proofs.AllowedSizes.{allowed, largest_size, size_within}
use Rattle.protocol.proofs.AdmissionLaws.{admitted_well_formed}
use Rattle.protocol.proofs.IndexPolynomials.{K-size}
use Rattle.protocol.proofs.Sessions.{verdicts_allowed}
use Rattle.protocol.proofs.MatrixPolynomials as circuits
use Rattle.protocol.proofs.MatrixSum.{denominator-not-zero}
use Rattle.protocol.proofs.IndexDecoding.{rowcol-not-zero}

module _ {q : Prime} (Q : Qualifies q) where
  lagrange-not-zero : (n : ℕ) → is_size n ≡ true → (y : Elem q) → Outside n y → (i : ℕ) → i < n → lagrange_divisor n i y ≢ 𝟘
  lagrange-not-zero n s y o i below = lagrange_divisor_lem Q n s (element n i) y (inside-element Q n s i below) o

  verifier_divisors :
      (s : Sizes) → size_refusal (six_size_tests s) ≡ none → (β γ : Elem q) → Outside s.|C| β → Outside (largest s.|K|) γ → VerifierDivisors s β γ
  unfolding size_refusal
  verifier_divisors s free β γ β-outside γ-outside =
      let W = allowed s (all_true (six_size_tests s) (refuse-none 4 0 (six_size_tests s) free)) in
      let K-allowed = largest_size s W in
      record {
        public_lagrange =
            lagrange-not-zero s.|X| W.X-size β (outside_subgroup Q s.|X| s.|C| W.X-size W.C-size W.X-within β β-outside);
        X = size_not-zero s.|X| W.X-size;
        C = size_not-zero s.|C| W.C-size;
        K-each = λ M. size_not-zero _ (W.K-size M);
        K-largest = size_not-zero (largest s.|K|) K-allowed;
        vanishing-each = λ M.
            vanishing-outside Q _ (W.K-size M) γ (outside_subgroup Q _ (largest s.|K|) (W.K-size M) K-allowed (size_within s M) γ γ-outside);
        selector = λ M. selector_divisor Q _ (largest s.|K|) (W.K-size M) K-allowed (size_within s M) γ γ-outside;
      }

  prover_divisors : (c : Circuit) → Admitted q c → (α β : Elem q) → Outside c.|R| α → Outside c.|C| β → ProverDivisors c α β
  prover_divisors c admitted α β α-outside β-outside =
      let W = admitted_well_formed q c admitted in
      record {
        R = size_not-zero c.|R| W.R-size;
        C = size_not-zero c.|C| W.C-size;
        X = size_not-zero c.|X| W.X-size;
        K-each = λ M. size_not-zero _ (K-size c M);
        K-largest = size_not-zero _ (circuits.largest_size c);
        row-lagrange = lagrange-not-zero c.|R| W.R-size α α-outside;
        column-lagrange = lagrange-not-zero c.|C| W.C-size β β-outside;
        denominators = denominator-not-zero Q c W α β α-outside β-outside;
      }

inverse-answers : (q : Prime) → InverseAnswers q
unfolding inverse_call word_refusal
inverse-answers q =
    record {
      refuses_word = λ a le. rw (le-ltb a q.p le) refl;
      refuses_zero = rw (below 0 (omega (arith, q.above_two)), inverse-zero {q = q} 𝟘 refl) refl;
      inverts = λ a positive small.
          let nonzero = of-not-zero a positive small in
          (reciprocal (of a), rw (below a small, inverse_other {q = q} (of a) nonzero) refl, mul-reciprocal (of a) nonzero);
    }
  where
    below : (a : ℕ) → a < q.p → ltb a q.p ≡ true
    below a small = lt-ltb a q.p small

pub divisors : DivisorsHold
unfolding size_refusal
divisors q Q =
    record {
      answers = inverse-answers q;
      none_is_zero = none_is_zero;
      verifier = verifier_divisors Q;
      judged = λ s o v x-length e.
          let allowed-verdict = verdicts_allowed q s o v x-length e in
          verifier_divisors Q s.sizes (none-refuse 4 0 (six_size_tests s.sizes) allowed-verdict.sizes-allowed) _ _ allowed-verdict.β-outside allowed-verdict.γ-outside;
      prover = prover_divisors Q;
      indexer = λ c admitted.
          record { K-each = λ M. size_not-zero _ (K-size c M); rowcol = rowcol-not-zero Q c (admitted_well_formed q c admitted) };
    }
