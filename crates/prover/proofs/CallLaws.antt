-- What a call that was let through gives the prover's functions: working memory that is long enough, and ẑ on C. Assumes nothing.
use mathlib.Core.Path.{◌≡◌, refl, sym, ◌∙◌, subst⁻¹}
use mathlib.Core.List.{List, map}
use Prim.Native.Nat.{ℕ, ◌+◌, ◌-◌, ◌≤◌}
use native.Mathlib.Omega.{arith}
use lib.ListN.{length-map}
use Rattle.field.specs.Prime.{Prime}
use Rattle.field.specs.Element.{of}
use Rattle.domain.specs.Polynomial.{values_on}
use Rattle.domain.specs.Qualifies.{Qualifies}
use Rattle.domain.proofs.SizeLaws.{size_positive, size_bound}
use Rattle.protocol.specs.Calls.{circuit_of}
use Rattle.protocol.proofs.AdmissionLaws.{WellFormed}
use Rattle.protocol.proofs.Witness.{assignment-values}
use Rattle.circuit.specs.Given.{given, prover_input, Fits}
use Rattle.circuit.proofs.Fitting.{C-fits, X-fits, X-below}
use Rattle.prover.specs.CallGiven.{assignment_in}

circuit-columns : (r c x : ℕ) (ea eb ec : List ℕ) → (circuit_of (given r c x ea eb ec)).|C| ≡ c
unfolding circuit_of
circuit-columns r c x ea eb ec = refl

-- arrays are long enough
module _ {p r c x : ℕ} {ea eb ec z m : List ℕ} (F : Fits p r c x ea eb ec z m) where
  pub witness_bound : c - x + 1 ≤ 1024
  witness_bound = omega (arith, size_bound c (C-fits F), size_positive x (X-fits F), X-below F)

  -- ẑ has the values z on C
  pub assignment_on-C : {q : Prime} → q.p ≡ p → Qualifies q → (mask : ℕ)
      → values_on (circuit_of (given r c x ea eb ec)).|C| (assignment_in q (prover_input r c x ea eb ec z mask m)) ≡ map of z
  assignment_on-C {q} e Q mask =
      assignment-values Q (circuit_of (given r c x ea eb ec))
      (subst⁻¹ (λ (p : ℕ). WellFormed p (circuit_of (given r c x ea eb ec))) e F.well_formed) (map of z) (of mask)
      (length-map z of ∙ F.z-length ∙ sym (circuit-columns r c x ea eb ec))
