-- The values of a matrix's four index polynomials on K_M: at the place of an entry that entry's values, after the last entry
-- the filling. Assumes nothing.
use mathlib.Core.Path.{◌≡◌, refl, sym, ap, ◌∙◌}
use mathlib.Core.Bool.{true}
use mathlib.Core.List.{List, [], ◌∷◌, ◌++◌, map}
use Prim.Native.Nat.{ℕ, zero, suc, ◌+◌, ◌-◌, ◌≤◌, ◌<◌}
use lib.ListN.{length, get_or, replicate, length-map, get_or-replicate}
use lib.Seq.{get_or-append-add}
use native.Mathlib.Omega.{arith}
use Rattle.field.specs.Prime.{Prime}
use Rattle.field.specs.Element.{Elem, of, 𝟘, 𝟙, ◌⊗◌}
use Rattle.domain.specs.Size.{is_size, size_for}
use Rattle.domain.specs.Domain.{element}
use Rattle.domain.specs.Polynomial.{eval}
use Rattle.domain.specs.Qualifies.{Qualifies}
use Rattle.domain.proofs.SizeLaws.{size_for_is_size, size_for_holds}
use Rattle.domain.proofs.Interpolation.{eval-interpolate}
use Rattle.protocol.specs.Three.{MatrixName, A, B, C, at}
use Rattle.protocol.specs.Circuit.{Entry, Circuit, sizes_of}
use Rattle.protocol.specs.Index.{Index, index_at, row_element, column_element, placed, index}
use Rattle.protocol.proofs.AdmissionLaws.{WellFormed}

-- a list of values with a filling after it: its members before the filling, and in it
pub getD_map_append : {S T : Type 0} (f : S → T) (l : List S) (rest : List T) (i : ℕ) (d : S) (z : T) → i < length l
    → get_or (map f l ++ rest) i z ≡ f (get_or l i d)
getD_map_append f [] rest i d z h = absurd (omega arith)
getD_map_append f (x ∷ l) rest zero d z h = refl
getD_map_append f (x ∷ l) rest (suc i) d z h = getD_map_append f l rest i d z (omega arith)

pub getD_append_replicate : {T : Type 0} (l : List T) (k i : ℕ) (a z : T) → length l ≤ i → i < k → get_or (l ++ replicate (k - length l) a) i z ≡ a
getD_append_replicate l k i a z le lt =
    let place : i ≡ length l + (i - length l) = omega arith in
    ap (λ j. get_or (l ++ replicate (k - length l) a) j z) place
    ∙ get_or-append-add l (replicate (k - length l) a) (i - length l) z
    ∙ get_or-replicate (k - length l) (i - length l) a z (omega arith)

-- |K_M| is the size for the entries' count
K-size_for : (c : Circuit) (M : MatrixName) → at (sizes_of c).|K| M ≡ size_for (length (at c.matrices M))
unfolding sizes_of
K-size_for c A = refl
K-size_for c B = refl
K-size_for c C = refl

pub K-size : (c : Circuit) (M : MatrixName) → is_size (at (sizes_of c).|K| M) ≡ true
K-size c M = ap is_size (K-size_for c M) ∙ size_for_is_size (length (at c.matrices M))

pub K-holds : {p : ℕ} (c : Circuit) → WellFormed p c → (M : MatrixName) → length (at c.matrices M) ≤ at (sizes_of c).|K| M
K-holds c W M = omega (arith, K-size_for c M, size_for_holds (length (at c.matrices M)) (W.few M))

module _ {q : Prime} where
  -- the four values at the place of an entry
  abbrev pub entry_index : Circuit → Entry → Index (Elem q)
  entry_index c e =
      let rowcol : Elem q = row_element c e ⊗ column_element c e in
      record { row = row_element c e; col = column_element c e; rowcol = rowcol; rowcolval = rowcol ⊗ of e.value }

  -- the four values after the last entry
  abbrev pub filling_index : Index (Elem q)
  filling_index = record { row = 𝟙; col = 𝟙; rowcol = 𝟙; rowcolval = 𝟘 }

module _ {q : Prime} (Q : Qualifies q) (c : Circuit) (W : WellFormed q.p c) (M : MatrixName) (i : ℕ) where
  abbrev entries : List Entry
  entries = at c.matrices M

  abbrev k : ℕ
  k = at (sizes_of c).|K| M

  module _ (below : i < length entries) (d : Entry) where
    placed-at-entry : (filling : Elem q) (f : Entry → Elem q) → eval (placed c M filling f) (element k i) ≡ f (get_or entries i d)
    unfolding placed
    placed-at-entry filling f =
        eval-interpolate Q k (K-size c M) (map f entries ++ replicate (k - length entries) filling) i (omega (arith, K-holds c W M))
        ∙ getD_map_append f entries (replicate (k - length entries) filling) i d 𝟘 below

    pub index-at-entry : index_at (index {q = q} c M) (element k i) ≡ entry_index c (get_or entries i d)
    unfolding index
    index-at-entry = λ t.
        record {
          row = placed-at-entry 𝟙 (row_element c) t;
          col = placed-at-entry 𝟙 (column_element c) t;
          rowcol = placed-at-entry 𝟙 (λ e. row_element c e ⊗ column_element c e) t;
          rowcolval = placed-at-entry 𝟘 (λ e. row_element c e ⊗ column_element c e ⊗ of e.value) t;
        }

  module _ (after : length entries ≤ i) (within : i < k) where
    placed-at-filling : (filling : Elem q) (f : Entry → Elem q) → eval (placed c M filling f) (element k i) ≡ filling
    unfolding placed
    placed-at-filling filling f =
        eval-interpolate Q k (K-size c M) (map f entries ++ replicate (k - length entries) filling) i within
        ∙ ap (λ n. get_or (map f entries ++ replicate (k - n) filling) i 𝟘) (sym (length-map entries f))
        ∙ getD_append_replicate (map f entries) k i filling 𝟘 (omega (arith, length-map entries f)) within

    pub index-at-filling : index_at (index {q = q} c M) (element k i) ≡ filling_index
    unfolding index
    index-at-filling = λ t.
        record {
          row = placed-at-filling 𝟙 (row_element c) t;
          col = placed-at-filling 𝟙 (column_element c) t;
          rowcol = placed-at-filling 𝟙 (λ e. row_element c e ⊗ column_element c e) t;
          rowcolval = placed-at-filling 𝟘 (λ e. row_element c e ⊗ column_element c e ⊗ of e.value) t;
        }
