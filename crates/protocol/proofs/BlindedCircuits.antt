-- The blinded circuit: the table of refusals lets it through, the sums of its rows, what it is satisfied by, and its public words.
-- Assumes nothing.
use mathlib.Core.Path.{◌≡◌, refl, sym, ap, ap₂, subst, fun_ext, ◌∙◌}
use mathlib.Core.Logic.{◌≢◌, inl}
use mathlib.Core.List.{List, [], ◌∷◌, ◌++◌}
use Prim.Native.Nat.{ℕ, ◌*◌, ◌/◌, ◌<◌, ◌≤◌}
use native.Mathlib.Omega.{arith}
use native.Mathlib.Nat.{zero-mul}
use native.Mathlib.Decide.{ℕ_discrete}
use lib.Dec.{eqb}
use lib.ListN.{length, get_or, length-append}
use borrow.Author.Tests.{eq-eqb, ne_eqb}
use Rattle.algebra.specs.Counting.{All}
use Rattle.algebra.specs.Lists.{pick, tabulate}
use Rattle.algebra.specs.Ring.{CommRing}
use Rattle.algebra.specs.Sum.{sum_list}
use Rattle.algebra.proofs.Choice.{pick_true, pick-false}
use Rattle.algebra.proofs.Counting.{all_map, all_map₂, all_append}
use Rattle.algebra.proofs.RingLaws.{zero-add, one_mul, mul-zero}
use Rattle.algebra.proofs.SumLaws.{sum_list_ext, sum_list-none, sum_list_append}
use Rattle.field.specs.Prime.{Prime}
use Rattle.field.specs.Element.{Elem, of, 𝟘, 𝟙, ◌⊕◌, ◌⊗◌}
use Rattle.field.proofs.ElementLaws.{prime_ring, add-zero}
use Rattle.domain.specs.Size.{max_size}
use Rattle.domain.proofs.SizeLaws.{size_positive}
use Rattle.protocol.specs.Three.{MatrixName, A, B, C, Three, at, each}
use Rattle.protocol.specs.Circuit.{Entry, Circuit, row_sum, Satisfied, public_part}
use Rattle.protocol.specs.Admission.{Admitted}
use Rattle.protocol.specs.Blinded.{reserved_row, reserved_columns, blinding_entry, blinded_circuit, blinded_assignment}
use Rattle.protocol.specs.Blinding.{Public, Satisfiable}
use Rattle.protocol.specs.FalseProofs.{Unsatisfiable}
use Rattle.protocol.proofs.AdmissionLaws.{EntryFits, Rising, WellFormed}
use Rattle.protocol.proofs.AdmittedCircuits.{well_formed_admitted}
use Rattle.protocol.proofs.BlindableCircuits.{Blinds}
use Rattle.protocol.proofs.BlindedAssignments.{length-blinded, blinded_elsewhere, blinded_own, blinded-at}
use Rattle.protocol.proofs.EntryOrder.{rising_append}
use Rattle.protocol.proofs.ThreeLaws.{at_each}

-- the entries of a blinded matrix: the matrix's, and then the added one
abbrev with_blinding : Circuit → MatrixName → List Entry
with_blinding c M = at c.matrices M ++ (blinding_entry c M ∷ [])

pub blinded-entries : (c : Circuit) (M : MatrixName) → at (blinded_circuit c).matrices M ≡ at c.matrices M ++ (blinding_entry c M ∷ [])
unfolding blinded_circuit
blinded-entries c M = at_each (with_blinding c) M

module _ {p : ℕ} (c : Circuit) (F : Blinds p c) where
  abbrev W : WellFormed p c
  W = F.well_formed

  abbrev entries : MatrixName → List Entry
  entries = at c.matrices

  -- the reserved row and columns are there, and no public column is reserved
  row_below : reserved_row c < c.|R|
  row_below = omega (arith, size_positive c.|R| W.R-size)

  column-below : (M : MatrixName) → at (reserved_columns c) M < c.|C|
  column-below A = omega (arith, F.lowest, F.middle, F.highest)
  column-below B = omega (arith, F.middle, F.highest)
  column-below C = F.highest

  public_unreserved : (i : ℕ) → Public c i → (M : MatrixName) → i ≢ at (reserved_columns c) M
  public_unreserved i public M e = F.not_public M (subst (Public c) e public)

  -- there is room for the added entry, it fits, and it stands after all others
  few : (M : MatrixName) → length (with_blinding c M) ≤ max_size
  few M = simp length-append (omega (arith, F.room M))

  fit : 1 < p → (M : MatrixName) → All (EntryFits p (blinded_circuit c)) (with_blinding c M)
  unfolding blinded_circuit
  fit one_below M =
      all_append (EntryFits p (blinded_circuit c)) (entries M) (blinding_entry c M ∷ [])
      (all_map still (entries M) (W.fit M)) (added, tt)
    where
      still : (e : Entry) → EntryFits p c e → EntryFits p (blinded_circuit c) e
      still e h =
          record {
            row_below = h.row_below;
            column-below = h.column-below;
            value_positive = h.value_positive;
            value-below = h.value-below;
          }

      added : EntryFits p (blinded_circuit c) (blinding_entry c M)
      added = record { row_below = row_below; column-below = column-below M; value_positive = omega arith; value-below = one_below }

  rising : (M : MatrixName) → Rising (with_blinding c M)
  rising M =
      rising_append (entries M) (blinding_entry c M ∷ []) (W.rising M) tt
      (all_map₂ (λ e fits unreserved. (inl (omega (arith, fits.row_below, unreserved.other_row)), tt))
      (entries M) (W.fit M) (F.unreserved M))

  -- so the blinded circuit is well formed
  pub blinded_well_formed : 1 < p → WellFormed p (blinded_circuit c)
  unfolding blinded_circuit
  blinded_well_formed one_below =
      record {
        R-size = W.R-size;
        C-size = W.C-size;
        X-size = W.X-size;
        X-within = W.X-within;
        few = λ M. rw (blinded-entries c M) (few M);
        fit = λ M. rw (blinded-entries c M) (fit one_below M);
        rising = λ M. rw (blinded-entries c M) (rising M);
      }

pub blinded-admitted : (q : Prime) (c : Circuit) → Blinds q.p c → Admitted q (blinded_circuit c)
blinded-admitted q c F = well_formed_admitted q (blinded_circuit c) (blinded_well_formed c F (omega (arith, q.above_two)))

module _ {q : Prime} (c : Circuit) (F : Blinds q.p c) where
  abbrev R : CommRing (Elem q)
  R = prime_ring q

  -- what an entry adds to the sum of row i
  abbrev term : List (Elem q) → ℕ → Entry → Elem q
  term z i e = pick (eqb e.row i) (of e.value ⊗ get_or z e.column 𝟘) 𝟘

  -- the reserved row is empty
  pub row_sum_reserved : (z : List (Elem q)) (M : MatrixName) → row_sum c M z (reserved_row c) ≡ 𝟘
  unfolding row_sum
  row_sum_reserved z M =
      sum_list-none R (term z (reserved_row c)) (at c.matrices M)
      (all_map (λ e u. pick-false _ _ (ne_eqb e.row (reserved_row c) u.other_row)) (at c.matrices M) (F.unreserved M))

  -- a blinded row's sum is the row's, and what the added entry adds
  row_sum_added :
      (z : List (Elem q)) (ρ : Three (Elem q)) (M : MatrixName) (i : ℕ)
      → row_sum (blinded_circuit c) M (blinded_assignment c z ρ) i ≡ row_sum c M z i ⊕ term (blinded_assignment c z ρ) i (blinding_entry c M)
  unfolding row_sum
  row_sum_added z ρ M i =
      let blinded : List (Elem q) = blinded_assignment c z ρ in
      ap (sum_list R (term blinded i)) (blinded-entries c M)
      ∙ sum_list_append R (term blinded i) (at c.matrices M) (blinding_entry c M ∷ [])
      ∙ ap₂ ◌⊕◌
      (sum_list_ext R (term blinded i) (term z i) (at c.matrices M)
      (all_map (λ e u. ap (λ v. pick (eqb e.row i) (of e.value ⊗ v) 𝟘) (blinded_elsewhere c z ρ e.column 𝟘 u.other_column))
      (at c.matrices M) (F.unreserved M)))
      (add-zero (term blinded i (blinding_entry c M)))

  -- in a row that is not reserved it is unchanged
  pub row_sum_elsewhere :
      (z : List (Elem q)) (ρ : Three (Elem q)) (M : MatrixName) (i : ℕ) → i ≢ reserved_row c
      → row_sum (blinded_circuit c) M (blinded_assignment c z ρ) i ≡ row_sum c M z i
  row_sum_elsewhere z ρ M i other =
      row_sum_added z ρ M i
      ∙ ap (λ s. row_sum c M z i ⊕ s) (pick-false _ _ (ne_eqb (reserved_row c) i (λ e. other (sym e))))
      ∙ add-zero (row_sum c M z i)

  -- and in the reserved row it is the matrix's blinding value
  pub row_sum-blinded :
      (z : List (Elem q)) → length z ≡ c.|C| → (ρ : Three (Elem q)) (M : MatrixName)
      → row_sum (blinded_circuit c) M (blinded_assignment c z ρ) (reserved_row c) ≡ at ρ M
  row_sum-blinded z z-length ρ M =
      row_sum_added z ρ M (reserved_row c)
      ∙ ap₂ ◌⊕◌ (row_sum_reserved z M)
      (pick_true _ _ (eq-eqb (reserved_row c) (reserved_row c) refl)
      ∙ ap (λ v. 𝟙 ⊗ v) (blinded-at c F z z-length ρ M 𝟘)
      ∙ one_mul R (at ρ M))
      ∙ zero-add R (at ρ M)

  -- the blinded circuit is satisfied exactly when the original is and ρ_A ρ_B = ρ_C
  module _ (z : List (Elem q)) (z-length : length z ≡ c.|C|) (ρ : Three (Elem q)) where
    abbrev blinded : List (Elem q)
    blinded = blinded_assignment c z ρ

    -- column 0 is public
    constant-kept : get_or blinded 0 𝟘 ≡ get_or z 0 𝟘
    constant-kept = blinded_elsewhere c z ρ 0 𝟘 (public_unreserved c F 0 (0, sym (zero-mul (c.|C| / c.|X|))))

    -- row i is satisfied
    abbrev Row : Circuit → List (Elem q) → ℕ → Type 0
    Row c z i = row_sum c A z i ⊗ row_sum c B z i ≡ row_sum c C z i

    row_back : (i : ℕ) → Row (blinded_circuit c) blinded i → Row c z i
    row_back i row = elim (ℕ_discrete i (reserved_row c)) [
      | yes e ↦
          subst (Row c z) (sym e)
          (ap₂ ◌⊗◌ (row_sum_reserved z A) (row_sum_reserved z B) ∙ mul-zero R 𝟘 ∙ sym (row_sum_reserved z C))
      | no other ↦
          sym (ap₂ ◌⊗◌ (row_sum_elsewhere z ρ A i other) (row_sum_elsewhere z ρ B i other)) ∙ row ∙ row_sum_elsewhere z ρ C i other
    ]

    row_on : ρ.a ⊗ ρ.b ≡ ρ.c → (i : ℕ) → Row c z i → Row (blinded_circuit c) blinded i
    row_on product i row = elim (ℕ_discrete i (reserved_row c)) [
      | yes e ↦
          subst (Row (blinded_circuit c) blinded) (sym e)
          (ap₂ ◌⊗◌ (row_sum-blinded z z-length ρ A) (row_sum-blinded z z-length ρ B) ∙ product ∙ sym (row_sum-blinded z z-length ρ C))
      | no other ↦
          ap₂ ◌⊗◌ (row_sum_elsewhere z ρ A i other) (row_sum_elsewhere z ρ B i other) ∙ row ∙ sym (row_sum_elsewhere z ρ C i other)
    ]

    product_back : Row (blinded_circuit c) blinded (reserved_row c) → ρ.a ⊗ ρ.b ≡ ρ.c
    product_back row =
        sym (ap₂ ◌⊗◌ (row_sum-blinded z z-length ρ A) (row_sum-blinded z z-length ρ B)) ∙ row ∙ row_sum-blinded z z-length ρ C

    pub blinded-satisfied :
        (Satisfied (blinded_circuit c) (blinded_assignment c z ρ) → Satisfied c z × (ρ.a ⊗ ρ.b ≡ ρ.c))
        × (Satisfied c z → ρ.a ⊗ ρ.b ≡ ρ.c → Satisfied (blinded_circuit c) (blinded_assignment c z ρ))
    unfolding blinded_circuit
    blinded-satisfied = (
      λ S. (
        record { constant = sym constant-kept ∙ S.constant; rows = λ i below. row_back i (S.rows i below) },
        product_back (S.rows (reserved_row c) (row_below c F)),
      ),
      λ S product. record { constant = constant-kept ∙ S.constant; rows = λ i below. row_on product i (S.rows i below) },
    )

  -- the public part of z is unchanged
  pub public_kept : (z : List (Elem q)) (ρ : Three (Elem q)) → public_part (blinded_circuit c) (blinded_assignment c z ρ) ≡ public_part c z
  unfolding blinded_circuit public_part
  public_kept z ρ =
      let step : ℕ = c.|C| / c.|X| in
      ap (tabulate c.|X|) (fun_ext (λ i. blinded_elsewhere c z ρ (i * step) 𝟘 (public_unreserved c F (i * step) (i, refl))))

  -- so the blinded circuit has a witness for just those public words for which the original has one
  pub same_public_words :
      (x : List (Elem q)) → (Satisfiable (blinded_circuit c) x → Satisfiable c x) × (Satisfiable c x → Satisfiable (blinded_circuit c) x)
  unfolding blinded_circuit public_part
  same_public_words x = (there, back)
    where
      there : Satisfiable (blinded_circuit c) x → Satisfiable c x
      there (z, (z-length, (public, S))) =
          let own : Three (Elem q) = each (λ M. get_or z (at (reserved_columns c) M) 𝟘) in
          let kept : Satisfied (blinded_circuit c) (blinded_assignment c z own) =
          subst (Satisfied (blinded_circuit c)) (sym (blinded_own c z 𝟘)) S in
          (z, (z-length, (public, ((blinded-satisfied z z-length own).0 kept).0)))

      back : Satisfiable c x → Satisfiable (blinded_circuit c) x
      back (z, (z-length, (public, S))) =
          let none : Three (Elem q) = each (λ M. 𝟘) in (
            blinded_assignment c z none,
            (length-blinded c z none ∙ z-length, (public_kept z none ∙ public, (blinded-satisfied z z-length none).1 S (mul-zero R 𝟘))),
          )

  pub still_unsatisfiable : (x : List (Elem q)) → Unsatisfiable c x → Unsatisfiable (blinded_circuit c) x
  still_unsatisfiable x unsatisfiable z is-witness = let (y, original) = (same_public_words x).0 (z, is-witness) in unsatisfiable y original
