-- What Row means: h0 of length |R| - 1 makes its sides equal at more than 2|R| - 2 points outside R exactly when ẑ satisfies every
-- row (document 01, "The claims behind them"); column 0 holds 1 since x begins with it. Assumes nothing.
use mathlib.Core.Path.{◌≡◌, sym, ap, ap₂, ◌∙◌}
use Prim.Native.Nat.{ℕ, ◌+◌, ◌-◌, ◌*◌, ◌<◌}
use lib.ListN.{length}
use native.Mathlib.Omega.{arith}
use Rattle.algebra.specs.Counting.{MoreThan}
use Rattle.algebra.proofs.Counting.{all_map}
use Rattle.algebra.proofs.Division.{length-quotient}
use Rattle.algebra.proofs.RingLaws.{sub_zero→eq, eq→sub_zero, mul-zero}
use Rattle.field.specs.Prime.{Prime}
use Rattle.field.specs.Element.{Elem, ◌⊗◌, ◌⊖◌}
use Rattle.field.proofs.ElementLaws.{prime_ring}
use Rattle.domain.specs.Domain.{Outside, element, vanishing}
use Rattle.domain.specs.Polynomial.{Poly, eval, values_on}
use Rattle.domain.specs.Qualifies.{Qualifies}
use Rattle.domain.proofs.Qualification.{large_enough}
use Rattle.domain.proofs.SizeLaws.{size_positive, size_bound}
use Rattle.domain.proofs.DomainLaws.{outside_many}
use Rattle.domain.proofs.Division.{vanishing_divides}
use Rattle.domain.proofs.ExactDivision.{vanishing_on, quotient_recovers}
use Rattle.protocol.specs.Three.{A, B, C}
use Rattle.protocol.specs.Circuit.{Circuit, sizes_of, row_sum, BeginsWithOne, Satisfied}
use Rattle.protocol.specs.Checks.{Transcript, Openings, row_left, row_right}
use Rattle.protocol.specs.Messages.{lengths, assignment, row_quotient, sums}
use Rattle.protocol.specs.Demand3.{Setting, RowMeans}
use Rattle.protocol.proofs.AdmissionLaws.{WellFormed, admitted_well_formed}
use Rattle.protocol.proofs.Extension.{image_on_rows}
use Rattle.protocol.proofs.MessagePolynomials.{row_poly, length_row_poly, eval_row_poly}
use Rattle.protocol.proofs.PublicColumns.{column-zero}

module _ {q : Prime} (Q : Qualifies q) (c : Circuit) (W : WellFormed q.p c) (ẑ : Poly q) where
  abbrev f : Poly q
  f = row_poly Q c W ẑ

  R-positive : 0 < c.|R|
  R-positive = size_positive c.|R| W.R-size

  -- at a row's element the left side is the row's difference
  left_on_rows :
      (i : ℕ) → i < c.|R|
      → eval f (element c.|R| i) ≡ row_sum c A (values_on c.|C| ẑ) i ⊗ row_sum c B (values_on c.|C| ẑ) i ⊖ row_sum c C (values_on c.|C| ẑ) i
  unfolding row_left sums
  left_on_rows i l =
      eval_row_poly Q c W ẑ (element c.|R| i)
      ∙ ap₂ ◌⊖◌ (ap₂ ◌⊗◌ (image_on_rows Q c W A ẑ i l) (image_on_rows Q c W B ẑ i l)) (image_on_rows Q c W C ẑ i l)

  -- "ẑ_A ẑ_B - ẑ_C = h0 v_R" at every point, where every row is satisfied
  pub row_rule : Satisfied c (values_on c.|C| ẑ) → (y : Elem q) → row_left (sums c ẑ y) ≡ row_right (sizes_of c) y (eval (row_quotient c ẑ) y)
  unfolding row_right row_quotient sizes_of
  row_rule satisfied y =
      sym (eval_row_poly Q c W ẑ y)
      ∙ vanishing_divides Q c.|R| W.R-size f (λ i l. left_on_rows i l ∙ eq→sub_zero (prime_ring q) _ _ (satisfied.rows i l)) y

  pub length-row_quotient : length (row_quotient c ẑ) ≡ (lengths (sizes_of c)).row_quotient
  unfolding row_quotient lengths sizes_of
  length-row_quotient = omega (arith, length-quotient (prime_ring q) c.|R| f R-positive, length_row_poly Q c W ẑ, R-positive)

  abbrev Equal : Poly q → Elem q → Type 0
  Equal h0 y = row_left (sums c ẑ y) ≡ row_right (sizes_of c) y (eval h0 y)

  -- enough equal points: h0 is the quotient, and the sides are equal everywhere
  recovered :
      (h0 : Poly q) → length h0 ≡ (lengths (sizes_of c)).row_quotient → MoreThan (2 * c.|R| - 2) (λ y. Outside c.|R| y × Equal h0 y)
      → (row_quotient c ẑ ≡ h0) × ((y : Elem q) → eval f y ≡ eval h0 y ⊗ vanishing c.|R| y)
  unfolding row_right row_quotient lengths sizes_of
  recovered h0 fits (l, distinct, equal, more) =
      quotient_recovers Q c.|R| W.R-size f h0
      (omega (arith, length_row_poly Q c W ẑ, R-positive)) (omega (arith, length_row_poly Q c W ẑ, R-positive))
      (2 * c.|R| - 2) (omega (arith, length_row_poly Q c W ẑ, R-positive))
      (l, distinct, all_map (λ y e. (e.0, eval_row_poly Q c W ẑ y ∙ e.1)) l equal, more)

  divided-satisfied :
      BeginsWithOne (values_on c.|C| ẑ) → (h0 : Poly q) → ((y : Elem q) → eval f y ≡ eval h0 y ⊗ vanishing c.|R| y)
      → Satisfied c (values_on c.|C| ẑ)
  divided-satisfied begins h0 divided =
      record {
        constant = begins;
        rows = λ i l.
            sub_zero→eq (prime_ring q) _ _
            (sym (left_on_rows i l) ∙ divided (element c.|R| i)
            ∙ ap (λ v. eval h0 (element c.|R| i) ⊗ v) (vanishing_on Q c.|R| W.R-size i l) ∙ mul-zero (prime_ring q) _);
      }

pub row_means : {q : Prime} → Qualifies q → (S : Setting q) (t : Transcript (Elem q)) (o : Openings (Elem q)) → RowMeans q S t o
row_means {q} Q S t o x-begins =
    record {
      complete = λ satisfied. (
        row_quotient c ẑ,
        length-row_quotient Q c W ẑ,
        (let (l, distinct, outside, more) = outside_many Q c.|R| W.R-size (2 * c.|R| - 2) room in
            (l, distinct, all_map (λ y allowed. (allowed, row_rule Q c W ẑ satisfied y)) l outside, more)),
      );
      sound = λ h0 fits many. divided-satisfied Q c W ẑ begins h0 (recovered Q c W ẑ h0 fits many).1;
      unique = λ h0 k0 fits fits' many many'. sym (recovered Q c W ẑ h0 fits many).0 ∙ (recovered Q c W ẑ k0 fits' many').0;
      everywhere = λ h0 fits many y outside.
          (let r = recovered Q c W ẑ h0 fits many in
          row_rule Q c W ẑ (divided-satisfied Q c W ẑ begins h0 r.1) y
          ∙ ap (λ h. row_right (sizes_of c) y (eval h y)) r.0);
    }
  where
    c : Circuit
    c = S.circuit

    W : WellFormed q.p c
    W = admitted_well_formed q c S.admitted

    ẑ : Poly q
    ẑ = assignment c S.x S.w

    begins : BeginsWithOne (values_on c.|C| ẑ)
    begins = column-zero Q c W S.x S.w ∙ x-begins

    room : 2 * c.|R| - 2 + c.|R| < q.p
    room = omega (arith, large_enough q Q, size_bound c.|R| W.R-size)
