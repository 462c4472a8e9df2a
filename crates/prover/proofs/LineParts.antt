-- The line m + W(Y) ẑ(Y), divided by v_C: since ẑ is z(Y) + r v_C, its quotient and remainder come from those of m and of W(Y) z(Y).
-- Assumes nothing.
use mathlib.Core.Path.{◌≡◌, sym, ap, ap₂, ◌∙◌}
use mathlib.Core.List.{List, [], ◌∷◌, tail}
use Prim.Native.Nat.{ℕ, ◌+◌, ◌-◌, ◌*◌, ◌<◌}
use native.Mathlib.Omega.{arith}
use lib.ListN.{length}
use Rattle.algebra.specs.Lists.{tabulate}
use Rattle.algebra.specs.Ring.{CommRing}
use Rattle.algebra.proofs.Counting.{all_map}
use Rattle.algebra.proofs.Division.{length-quotient, length-remainder}
use Rattle.algebra.proofs.PolynomialLaws.{eval_add, eval-scale, eval_mul, length-add, length-scale, length-product}
use Rattle.algebra.proofs.Solver.{◌:+◌, ◌:*◌, :1, ◌:=◌, ◌⊙◌, ◌from◌, ring_by}
use Rattle.field.specs.Prime.{Prime}
use Rattle.field.specs.Element.{Elem, ◌⊕◌, ◌⊗◌}
use Rattle.field.proofs.ElementLaws.{prime_ring}
use Rattle.domain.specs.Domain.{vanishing}
use Rattle.domain.specs.Polynomial.{Poly, eval, ◌⊞◌, ◌·◌, ◌⊠◌, quotient, remainder, interpolate, agreeing}
use Rattle.domain.specs.Qualifies.{Qualifies}
use Rattle.domain.proofs.Division.{divide, division_recovers}
use Rattle.domain.proofs.DomainLaws.{outside_many}
use Rattle.domain.proofs.Interpolation.{length-interpolate, length-agreeing}
use Rattle.domain.proofs.Qualification.{large_enough}
use Rattle.domain.proofs.SizeLaws.{size_positive, size_bound}
use Rattle.protocol.specs.Three.{Three, each}
use Rattle.protocol.specs.Circuit.{Circuit, sizes_of, public_part}
use Rattle.protocol.specs.Checks.{weighted}
use Rattle.protocol.specs.Messages.{lengths, witness, assignment, values, line, line_remainder, line_quotient}
use Rattle.protocol.proofs.AdmissionLaws.{WellFormed}
use Rattle.protocol.proofs.MessagePolynomials.{length-assignment, length-line}
use Rattle.protocol.proofs.ProverForms.{column_sum, weighted_by_columns}
use Rattle.protocol.proofs.Witness.{eval-ẑ, length-witness}

module _ {q : Prime} (Q : Qualifies q) (c : Circuit) (W : WellFormed q.p c) (z : List (Elem q)) (r : Elem q) (m : Poly q)
    (m-length : length m ≡ 2 * c.|C|) (α : Elem q) (η : Three (Elem q)) where
  abbrev R : CommRing (Elem q)
  R = prime_ring q

  abbrev n : ℕ
  n = c.|C|

  abbrev ẑ : Poly q
  ẑ = assignment c (public_part c z) (witness c z r)

  -- Σ η_M M̂(α,Y), and its product with z(Y)
  abbrev weights : Poly q
  weights = agreeing n (λ y. weighted η (values c α y))

  abbrev product : Poly q
  product = weights ⊠ interpolate n z

  abbrev line_high : Poly q
  line_high = quotient n m ⊞ (r · weights ⊞ quotient n product)

  abbrev line_low : Poly q
  line_low = remainder n m ⊞ remainder n product

  positive : 0 < n
  positive = size_positive n W.C-size

  line_splits : (y : Elem q) → eval (line c m ẑ α η) y ≡ eval line_high y ⊗ vanishing n y ⊕ eval line_low y
  unfolding line
  line_splits y =
      eval_add R m (weights ⊠ ẑ) y
      ∙ ap₂ ◌⊕◌ (divide n positive m y) (eval_mul R weights ẑ y ∙ ap (λ v. eval weights y ⊗ v) (eval-ẑ Q c W z r y))
      ∙ ring_by R
      (eval (quotient n m) y ∷ eval (remainder n m) y ∷ vanishing n y ∷ eval weights y ∷ eval (interpolate n z) y ∷ r
      ∷ eval (quotient n product) y ∷ eval (remainder n product) y ∷ [])
      (λ h l v w z r k s. h :* v :+ l :+ w :* (z :+ r :* v) := (h :+ (r :* w :+ k)) :* v :+ (l :+ s) from
      (:1 ⊙ (w :* z := k :* v :+ s)) ∷ [])
      (sym (eval_mul R weights (interpolate n z) y) ∙ divide n positive product y, tt) tt
      ∙ sym (ap₂ (λ h l. h ⊗ vanishing n y ⊕ l)
      (eval_add R (quotient n m) (r · weights ⊞ quotient n product) y
      ∙ ap (λ v. eval (quotient n m) y ⊕ v)
      (eval_add R (r · weights) (quotient n product) y ∙ ap (λ v. v ⊕ eval (quotient n product) y) (eval-scale R r weights y)))
      (eval_add R (remainder n m) (remainder n product) y))

  weights_length : length weights ≡ n
  weights_length = length-agreeing n (λ y. weighted η (values c α y))

  product-length : length product ≡ n + n - 1
  product-length =
      let l : length (interpolate n z) ≡ n = length-interpolate n z in
      length-product R weights (interpolate n z) (omega (arith, weights_length, positive)) (omega (arith, positive))
      ∙ ap₂ (λ a b. a + b - 1) weights_length l

  high_length : length line_high ≡ n
  high_length = omega (
    arith,
    positive,
    length-add R (quotient n m) (r · weights ⊞ quotient n product),
    length-add R (r · weights) (quotient n product),
    length-scale R r weights,
    weights_length,
    length-quotient R n m positive,
    length-quotient R n product positive,
    product-length,
  )

  low_length : length line_low ≡ n
  low_length = omega (arith, length-add R (remainder n m) (remainder n product), length-remainder R n m, length-remainder R n product)

  line-length : length (line c m ẑ α η) ≡ 2 * n
  unfolding lengths sizes_of
  line-length = length-line Q c W m ẑ α η m-length (length-assignment Q c W (public_part c z) (witness c z r) (length-witness Q c W z r))

  line-divided : (quotient n (line c m ẑ α η) ≡ line_high) × (remainder n (line c m ẑ α η) ≡ line_low)
  line-divided =
      let room : 2 * n - 1 + n < q.p = omega (arith, large_enough q Q, size_bound n W.C-size) in
      let (l, distinct, outside, more) = outside_many Q n W.C-size (2 * n - 1) room in
      division_recovers Q n W.C-size (line c m ẑ α η) line_high line_low (omega (arith, line-length)) (omega (arith, line-length, high_length))
      low_length
      (2 * n - 1) (omega (arith, line-length, positive)) (l, distinct, all_map (λ y allowed. (allowed, line_splits y)) l outside, more)

  -- Σ η_M M̂(α,Y) from the columns' sums, and g1 and h1 from it
  abbrev pub columns : Poly q
  columns = interpolate n (tabulate n (λ j. weighted η (each (λ M. column_sum c M α j))))

  pub line-remainder_made : tail (remainder n m ⊞ remainder n (columns ⊠ interpolate n z)) ≡ line_remainder c (line c m ẑ α η)
  unfolding line_remainder
  line-remainder_made =
      ap (λ w. tail (remainder n m ⊞ remainder n (w ⊠ interpolate n z))) (sym (weighted_by_columns Q c W α η))
      ∙ ap tail (sym line-divided.1)

  pub line-quotient_made : quotient n m ⊞ (r · columns ⊞ quotient n (columns ⊠ interpolate n z)) ≡ line_quotient c (line c m ẑ α η)
  unfolding line_quotient
  line-quotient_made =
      ap (λ w. quotient n m ⊞ (r · w ⊞ quotient n (w ⊠ interpolate n z))) (sym (weighted_by_columns Q c W α η)) ∙ sym line-divided.0
