-- All that is shown of circuits covers the blinded one: a blinded job is let through, and its honest proof is accepted; the index
-- polynomials give back the blinded matrices; and demand 3 holds for it. Assumes nothing.
use mathlib.Core.Path.{◌≡◌, sym, subst, ◌∙◌}
use mathlib.Core.List.{List, [], ◌∷◌, ◌++◌, map}
use mathlib.Core.Option.{none}
use Prim.Native.Nat.{ℕ, ◌<◌}
use native.Mathlib.Omega.{arith}
use lib.ListN.{length, length-map}
use Rattle.algebra.specs.Counting.{All}
use Rattle.algebra.proofs.Counting.{append_all, all_append}
use Rattle.field.specs.Prime.{Prime}
use Rattle.field.specs.Element.{Elem, of, ◌⊗◌}
use Rattle.domain.specs.Domain.{Outside}
use Rattle.domain.specs.Polynomial.{Poly}
use Rattle.domain.specs.Qualifies.{Qualifies}
use Rattle.protocol.specs.Three.{MatrixName, Three, at, listed, map_three}
use Rattle.protocol.specs.Circuit.{Circuit, sizes_of, largest, Satisfied}
use Rattle.protocol.specs.Index.{index, decode}
use Rattle.protocol.specs.Messages.{lengths}
use Rattle.protocol.specs.Admission.{Admitted}
use Rattle.protocol.specs.Job.{Job, challenge_words, job_refusal, honest_conversation}
use Rattle.protocol.specs.Demand2.{accepted}
use Rattle.protocol.specs.Demand3.{Setting, Demand3}
use Rattle.protocol.specs.Blinded.{blinding_entry, blinded_circuit, blinded_assignment}
use Rattle.protocol.specs.Blinding.{blinded_job}
use Rattle.protocol.proofs.AdmissionLaws.{JobFits, job-fits}
use Rattle.protocol.proofs.AdmittedJobs.{fits-job}
use Rattle.protocol.proofs.BlindableCircuits.{Blinds}
use Rattle.protocol.proofs.BlindedAssignments.{length-blinded, all-blinded, map-blinded}
use Rattle.protocol.proofs.BlindedCircuits.{blinded-entries, blinded_well_formed, blinded-admitted, blinded-satisfied}
use Rattle.protocol.proofs.Honest.{honest-accepted}
use Rattle.protocol.proofs.IndexDecoding.{index_gives_back}

module _ (q : Prime) where
  -- the blinded job fits where the job does
  module _ (j : Job) (ρ : Three ℕ) (J : JobFits q j) (F : Blinds q.p j.circuit) where
    abbrev c : Circuit
    c = j.circuit

    words_fit : All (λ w. w < q.p) (listed ρ) → All (λ w. w < q.p) (blinded_assignment c j.z ρ ++ (j.r ∷ (j.m ++ challenge_words j)))
    words_fit low =
        let Low : ℕ → Type 0 = λ w. w < q.p in
        let rest : List ℕ = j.r ∷ (j.m ++ challenge_words j) in
        let (of-z, others) = append_all Low j.z rest J.words_fit in
        all_append Low (blinded_assignment c j.z ρ) rest (all-blinded c j.z ρ Low of-z low) others

    satisfied : of {q = q} ρ.a ⊗ of ρ.b ≡ of ρ.c → Satisfied {q = q} (blinded_circuit c) (map of (blinded_assignment c j.z ρ))
    satisfied product =
        subst (Satisfied (blinded_circuit c)) (sym (map-blinded of c j.z ρ))
        ((blinded-satisfied c F (map of j.z) (length-map j.z of ∙ J.z-length) (map_three of ρ)).1 J.satisfied product)

    blinded-fits :
        All (λ w. w < q.p) (listed ρ) → of {q = q} ρ.a ⊗ of ρ.b ≡ of ρ.c
        → Outside {q = q} (largest (sizes_of (blinded_circuit c)).|K|) (of j.γ) → JobFits q (blinded_job j ρ)
    unfolding blinded_circuit
    blinded-fits low product outside =
        record {
          circuit-fits = blinded_well_formed c F (omega (arith, q.above_two));
          z-length = length-blinded c j.z ρ ∙ J.z-length;
          m-length = J.m-length;
          words_fit = words_fit low;
          mask-sum = J.mask-sum;
          satisfied = satisfied product;
          α-outside = J.α-outside;
          β-outside = J.β-outside;
          γ-outside = outside;
        }

  module _ (Q : Qualifies q) where
    -- so it is let through, and its honest proof is accepted
    pub blinded-job :
        (j : Job) (ρ : Three ℕ) → job_refusal q j ≡ none → Blinds q.p j.circuit → All (λ w. w < q.p) (listed ρ)
        → of {q = q} ρ.a ⊗ of ρ.b ≡ of ρ.c → Outside {q = q} (largest (sizes_of (blinded_circuit j.circuit)).|K|) (of j.γ)
        → (job_refusal q (blinded_job j ρ) ≡ none) × (honest_conversation q (blinded_job j ρ) ≡ accepted q)
    blinded-job j ρ free F low product outside =
        let free-too = fits-job q (blinded_job j ρ) (blinded-fits j ρ (job-fits q j free) F low product outside) in
        (free-too, honest-accepted q Q (blinded_job j ρ) free-too)

    -- the index polynomials give back the blinded matrices
    pub blinded-index_gives_back :
        (c : Circuit) → Blinds q.p c → (M : MatrixName)
        → decode (sizes_of (blinded_circuit c)) M (index {q = q} (blinded_circuit c) M) ≡ at c.matrices M ++ (blinding_entry c M ∷ [])
    blinded-index_gives_back c F M = index_gives_back q Q (blinded_circuit c) (blinded-admitted q c F) M ∙ blinded-entries c M

  -- what demand 3 says of every circuit that is let through, it says of the blinded one
  pub demand3_covers :
      ((S : Setting q) → Demand3 q S)
      → (c : Circuit) → Blinds q.p c → (x : List (Elem q)) (x-length : length x ≡ (blinded_circuit c).|X|) (w : Poly q)
      (w-length : length w ≡ (lengths (sizes_of (blinded_circuit c))).witness)
      → (admitted : Admitted q (blinded_circuit c))
      × Demand3 q (record { circuit = blinded_circuit c; admitted = admitted; x = x; x-length = x-length; w = w; w-length = w-length })
  demand3_covers demand3 c F x x-length w w-length = (blinded-admitted q c F, demand3 _)
