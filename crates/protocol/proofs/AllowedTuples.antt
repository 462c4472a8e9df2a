-- How many challenge tuples are allowed, and how they compare with the sum of the five counts: the sum times p is no less, and of a circuit
-- that the table of refusals lets through the sum is not 0. Assumes nothing.
use mathlib.Core.Path.{◌≡◌, refl}
use mathlib.Core.Bool.{true}
use Prim.Native.Nat.{ℕ, suc, ◌-◌, ◌*◌, ◌/◌, ◌≤◌, ◌<◌}
use native.Mathlib.Omega.{arith}
use native.Mathlib.Nat.{mul-pos, mul_comm, suc-mul, div-mul-le_self, lt-div-mul-add, div-le_of_le-mul}
use Rattle.algebra.specs.Counting.{Exactly}
use Rattle.algebra.proofs.ExactCounting.{exactly_pairs, exactly_along}
use Rattle.field.specs.Prime.{Prime}
use Rattle.domain.specs.Size.{is_size}
use Rattle.domain.specs.Qualifies.{Qualifies}
use Rattle.domain.proofs.AllowedPoints.{exactly_outside}
use Rattle.domain.proofs.Qualification.{large_enough}
use Rattle.domain.proofs.SizeLaws.{size_bound}
use Rattle.protocol.specs.Circuit.{Circuit, Sizes, sizes_of, largest}
use Rattle.protocol.specs.Admission.{Admitted}
use Rattle.protocol.specs.FalseProofs.{Allowed, all_tuples, saved_byη, five_counts, one_in_many}
use Rattle.protocol.proofs.AdmissionLaws.{WellFormed, admitted_well_formed}
use Rattle.protocol.proofs.MatrixPolynomials.{largest_size}
use Rattle.protocol.proofs.TripleCounting.{exactly_triples}

module _ (q : Prime) (s : Sizes) where
  -- already η's count times p is N
  tuples_within : all_tuples q s ≤ q.p * five_counts q s
  unfolding all_tuples five_counts saved_byη
  tuples_within = omega arith

  pub tuples_below : 0 < five_counts q s → all_tuples q s < suc q.p * five_counts q s
  tuples_below some = omega (arith, tuples_within, suc-mul q.p (five_counts q s))

  pub one_in_below : one_in_many q s ≤ q.p
  unfolding one_in_many
  one_in_below = div-le_of_le-mul (five_counts q s) (omega (arith, tuples_within, mul_comm q.p (five_counts q s)))

module _ {q : Prime} (Q : Qualifies q) (c : Circuit) (admitted : Admitted q c) where
  abbrev W : WellFormed q.p c
  W = admitted_well_formed q c admitted

  pub allowed_tuples : Exactly (all_tuples q (sizes_of c)) (Allowed {q = q} c)
  unfolding all_tuples sizes_of
  allowed_tuples =
      exactly_along (λ ((((α, η), β), δ), γ). record { α = α; η = η; β = β; δ = δ; γ = γ })
      (λ t. ((((t.α, t.η), t.β), t.δ), t.γ)) (λ t h. refl) (λ t h. refl)
      (λ t h. (h.0.0.0.0, h.0.0.1, h.1)) (λ t h. ((((h.0, tt), h.1), tt), h.2))
      (exactly_pairs
      (exactly_pairs
      (exactly_pairs (exactly_pairs (exactly_outside Q c.|R| W.R-size) (exactly_triples q)) (exactly_outside Q c.|C| W.C-size))
      (exactly_triples q))
      (exactly_outside Q (largest (sizes_of c).|K|) (largest_size c)))

  -- some points lie outside a domain
  outside_positive : (n : ℕ) → is_size n ≡ true → 0 < q.p - n
  outside_positive n size = omega (arith, large_enough q Q, size_bound n size)

  pub sum_positive : 0 < five_counts q (sizes_of c)
  unfolding five_counts saved_byη sizes_of
  sum_positive =
      let p : 0 < q.p = omega (arith, q.above_two) in
      omega (
        arith,
        mul-pos
            (mul-pos (mul-pos (mul-pos (outside_positive c.|R| W.R-size) (mul-pos p p)) (outside_positive c.|C| W.C-size))
            (mul-pos (mul-pos p p) p))
            (outside_positive (largest (sizes_of c).|K|) (largest_size c)),
      )

  pub largest_multiple :
      let k : ℕ = one_in_many q (sizes_of c) in
      (k * five_counts q (sizes_of c) ≤ all_tuples q (sizes_of c)) × (all_tuples q (sizes_of c) < suc k * five_counts q (sizes_of c)) × (k ≤ q.p)
  unfolding one_in_many
  largest_multiple =
      let n : ℕ = all_tuples q (sizes_of c) in
      let m : ℕ = five_counts q (sizes_of c) in
      (div-mul-le_self n m, omega (arith, lt-div-mul-add {a = n} sum_positive, suc-mul (n / m) m), one_in_below q (sizes_of c))
