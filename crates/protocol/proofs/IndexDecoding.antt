-- The index polynomials give back the matrices: rowcol_M is not 0 on K_M, and what is read there, point by point, is the list of entries.
-- Assumes nothing.
use mathlib.Core.Path.{◌≡◌, refl, sym, ap, ap₂, ◌∙◌}
use mathlib.Core.Logic.{◌≢◌}
use mathlib.Core.Bool.{true}
use mathlib.Core.List.{List, [], ◌∷◌, ◌++◌, foldr}
use Prim.Native.Nat.{ℕ, zero, suc, ◌≤◌, ◌<◌}
use lib.ListN.{length, get_or}
use native.Mathlib.Omega.{arith}
use native.Mathlib.Decide.{dec_lt}
use Rattle.algebra.specs.Lists.{tabulate}
use Rattle.algebra.specs.Ring.{CommRing, IsField}
use Rattle.algebra.proofs.Choice.{pick_true, pick-false}
use Rattle.algebra.proofs.Counting.{all-at}
use Rattle.algebra.proofs.FieldLaws.{mul-not-zero}
use Rattle.algebra.proofs.Solver.{◌:*◌, :1, ◌:=◌, ◌⊙◌, ◌from◌, ring_by}
use Rattle.field.specs.Prime.{Prime}
use Rattle.field.specs.Element.{Elem, of, 𝟘, ◌⊗◌}
use Rattle.field.specs.Power.{reciprocal, ◌⊘◌}
use Rattle.field.proofs.ElementLaws.{of-not-zero, one_not_zero, prime_ring}
use Rattle.field.proofs.Words.{word-of}
use Rattle.field.proofs.Field.{mul-reciprocal, true-equal, false-equal, prime_field}
use Rattle.domain.specs.Size.{is_size}
use Rattle.domain.specs.Domain.{element, domain}
use Rattle.domain.specs.Polynomial.{eval}
use Rattle.domain.specs.Qualifies.{Qualifies}
use Rattle.domain.proofs.DomainLaws.{element_injective, element-not-zero}
use Rattle.protocol.specs.Three.{MatrixName, at}
use Rattle.protocol.specs.Circuit.{Entry, Circuit, sizes_of}
use Rattle.protocol.specs.Index.{Index, index_at, row_element, column_element, index, place_of, entry_at, decode}
use Rattle.protocol.specs.Demand2.{IndexGivesBack}
use Rattle.protocol.proofs.AdmissionLaws.{WellFormed, EntryFits, admitted_well_formed}
use Rattle.protocol.proofs.IndexPolynomials.{K-holds, entry_index, filling_index, index-at-entry, index-at-filling}

-- a list is read back from n points, where each of its places gives its member and the points after them give nothing
foldr-tabulate : {S T : Type 0} (read : S → List T) (n : ℕ) (f : ℕ → S) (l : List T) (d : T) → length l ≤ n
    → ((i : ℕ) → i < length l → read (f i) ≡ get_or l i d ∷ []) → ((i : ℕ) → length l ≤ i → i < n → read (f i) ≡ [])
    → foldr (λ y rest. read y ++ rest) [] (tabulate n f) ≡ l
foldr-tabulate read zero f [] d le member none = refl
foldr-tabulate read zero f (x ∷ l) d le member none = absurd (omega arith)
foldr-tabulate read (suc n) f [] d le member none =
    ap₂ ◌++◌ (none 0 (omega arith) (omega arith))
    (foldr-tabulate read n (λ i. f (suc i)) [] d (omega arith) (λ i h. absurd (omega arith)) (λ i h k. none (suc i) (omega arith) (omega arith)))
foldr-tabulate read (suc n) f (x ∷ l) d le member none =
    ap₂ ◌++◌ (member 0 (omega arith))
    (foldr-tabulate read n (λ i. f (suc i)) l d (omega arith) (λ i h. member (suc i) (omega arith))
    (λ i h k. none (suc i) (omega arith) (omega arith)))

-- the place of one of n elements without repetition
place_of_tabulate : {q : Prime} (n i : ℕ) (f : ℕ → Elem q) → ((i j : ℕ) → i < n → j < n → f i ≡ f j → i ≡ j) → i < n
    → place_of (f i) (tabulate n f) ≡ i
unfolding place_of
place_of_tabulate zero i f injective below = absurd (omega arith)
place_of_tabulate (suc n) zero f injective below = pick_true _ _ (true-equal (f 0) (f 0) refl)
place_of_tabulate (suc n) (suc i) f injective below =
    pick-false _ _ (false-equal (f (suc i)) (f 0) (λ e. omega (arith, injective (suc i) 0 below (omega arith) e)))
    ∙ ap suc (place_of_tabulate n i (λ j. f (suc j)) rest (omega arith))
  where
    rest : (j k : ℕ) → j < n → k < n → f (suc j) ≡ f (suc k) → j ≡ k
    rest j k l m e = omega (arith, injective (suc j) (suc k) (omega arith) (omega arith) e)

module _ {q : Prime} where
  place_of_element : Qualifies q → (n : ℕ) → is_size n ≡ true → (i : ℕ) → i < n → place_of {q = q} (element n i) (domain n) ≡ i
  unfolding domain
  place_of_element Q n s i below = place_of_tabulate n i (element n) (element_injective Q n s) below

  divide_back : (a b : Elem q) → a ≢ 𝟘 → a ⊗ b ⊘ a ≡ b
  divide_back a b ne =
      ring_by (prime_ring q) (a ∷ b ∷ reciprocal a ∷ []) (λ a b i. a :* b :* i := b from (b ⊙ (a :* i := :1)) ∷ []) (mul-reciprocal a ne, tt) tt

module _ {q : Prime} (Q : Qualifies q) (c : Circuit) (W : WellFormed q.p c) where
  -- the product of a row's and a column's element is not 0
  entry-rowcol : (e : Entry) → (entry_index {q = q} c e).rowcol ≢ 𝟘
  unfolding row_element column_element
  entry-rowcol e = mul-not-zero (prime_ring q) (prime_field q) (element c.|R| e.row) (element c.|C| e.column)
      (element-not-zero Q c.|R| W.R-size e.row) (element-not-zero Q c.|C| W.C-size e.column)

  -- an entry is read from the four values at its place
  entry_read : (e : Entry) → EntryFits q.p c e → entry_at {q = q} (sizes_of c) (entry_index c e) ≡ e ∷ []
  unfolding entry_at sizes_of row_element column_element
  entry_read e fits =
      pick-false _ _ (false-equal (rowcol ⊗ of e.value) 𝟘 (mul-not-zero R F rowcol (of e.value) (entry-rowcol e) value≢0))
      ∙ (λ t. record { row = row_read t; column = column-read t; value = value_read t } ∷ [])
    where
      R : CommRing (Elem q)
      R = prime_ring q

      F : IsField R
      F = prime_field q

      rowcol : Elem q
      rowcol = element c.|R| e.row ⊗ element c.|C| e.column

      value≢0 : of {q = q} e.value ≢ 𝟘
      value≢0 = of-not-zero e.value fits.value_positive fits.value-below

      row_read : place_of {q = q} (element c.|R| e.row) (domain c.|R|) ≡ e.row
      row_read = place_of_element Q c.|R| W.R-size e.row fits.row_below

      column-read : place_of {q = q} (element c.|C| e.column) (domain c.|C|) ≡ e.column
      column-read = place_of_element Q c.|C| W.C-size e.column fits.column-below

      value_read : (rowcol ⊗ of e.value ⊘ rowcol).word ≡ e.value
      value_read = ap (λ (x : Elem q). x.word) (divide_back rowcol (of e.value) (entry-rowcol e)) ∙ word-of q e.value fits.value-below

  -- nothing is read from the filling
  filling-read : entry_at {q = q} (sizes_of c) filling_index ≡ []
  unfolding entry_at
  filling-read = pick_true _ _ (true-equal {q = q} 𝟘 𝟘 refl)

  -- rowcol_M is not 0 on K_M
  pub rowcol-not-zero : (M : MatrixName) (i : ℕ) → i < at (sizes_of c).|K| M
      → eval (index {q = q} c M).rowcol (element (at (sizes_of c).|K| M) i) ≢ 𝟘
  rowcol-not-zero M i within z = elim (dec_lt i (length (at c.matrices M))) [
    | yes below ↦ entry-rowcol _ (sym (ap (λ (v : Index (Elem q)). v.rowcol) (index-at-entry Q c W M i below none)) ∙ z)
    | no past ↦ one_not_zero (sym (ap (λ (v : Index (Elem q)). v.rowcol) (index-at-filling Q c W M i (omega arith) within)) ∙ z)
  ]
    where
      none : Entry
      none = record { row = 0; column = 0; value = 0 }

  decode-index : (M : MatrixName) → decode (sizes_of c) M (index {q = q} c M) ≡ at c.matrices M
  unfolding decode domain
  decode-index M =
      foldr-tabulate (λ y. entry_at (sizes_of c) (index_at (index c M) y)) k (element k) entries d (K-holds c W M)
      (λ i below. ap (entry_at (sizes_of c)) (index-at-entry Q c W M i below d)
      ∙ entry_read (get_or entries i d) (all-at (EntryFits q.p c) entries (W.fit M) i d below))
      (λ i after within. ap (entry_at (sizes_of c)) (index-at-filling Q c W M i after within) ∙ filling-read)
    where
      entries : List Entry
      entries = at c.matrices M

      k : ℕ
      k = at (sizes_of c).|K| M

      d : Entry
      d = record { row = 0; column = 0; value = 0 }

pub index_gives_back : (q : Prime) → Qualifies q → IndexGivesBack q
index_gives_back q Q c admitted M = decode-index Q c (admitted_well_formed q c admitted) M
