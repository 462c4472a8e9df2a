-- The index polynomials from words: their values on K_M are those of the entries, with the filling after the last entry.
-- Assumes nothing.
use mathlib.Core.Path.{◌≡◌, refl, sym, ap, ap₂, ◌∙◌, fun_ext}
use mathlib.Core.List.{List, [], ◌∷◌, ◌++◌, map}
use Prim.Native.Nat.{ℕ, zero, suc, ◌-◌, ◌≤◌}
use native.Mathlib.Omega.{arith}
use native.Mathlib.Nat.{sub-zero}
use lib.ListN.{length, get_or, take, replicate}
use Rattle.algebra.specs.Lists.{tabulate}
use Rattle.algebra.specs.Ring.{pow}
use Rattle.algebra.proofs.RingLaws.{mul-zero}
use Rattle.field.specs.Prime.{Prime}
use Rattle.field.specs.Element.{Elem, of, 𝟘, 𝟙, ◌⊗◌, words}
use Rattle.field.proofs.ElementLaws.{mul_one, prime_ring}
use Rattle.field.proofs.Words.{of_results}
use Rattle.domain.specs.Size.{size_for}
use Rattle.domain.specs.Domain.{root, element, domain}
use Rattle.domain.specs.Polynomial.{interpolate}
use Rattle.domain.proofs.SizeLaws.{size_for_holds}
use Rattle.domain.proofs.DomainLaws.{powers-domain}
use Rattle.poly.proofs.LentParts.{array, returned, lent_length, back_is}
use Rattle.protocol.specs.Three.{MatrixName, A, B, C, at}
use Rattle.protocol.specs.Circuit.{Entry, Circuit, sizes_of}
use Rattle.protocol.specs.Index.{Index, map_index, row_element, column_element, placed, index}
use Rattle.protocol.specs.Calls.{entries_of}
use Rattle.protocol.proofs.EntryLists.{length-entries_of}
use Rattle.circuit.specs.Given.{entry_words, EntryWords}
use Rattle.circuit.specs.IndexLists.{index_lists, IndexLengths}
use Rattle.circuit.proofs.Entries.{entry_or_zeros}
use Rattle.index.specs.IndexValues.{index_values}

-- a list with a filling after it, as a rule over its places
filling : {S T : Type 0} (f : S → T) (d : S) (n : ℕ) → replicate n (f d) ≡ tabulate n (λ i. f d)
filling f d zero = refl
filling f d (suc n) = ap (λ l. f d ∷ l) (filling f d n)

padded : {S T : Type 0} (f : S → T) (d : S) (l : List S) (n : ℕ) → length l ≤ n
    → map f l ++ replicate (n - length l) (f d) ≡ tabulate n (λ i. f (get_or l i d))
padded f d [] n h = ap (λ k. replicate k (f d)) (sub-zero n) ∙ filling f d n
padded f d (x ∷ l) zero h = absurd (omega arith)
padded f d (x ∷ l) (suc n) h =
    let e : suc n - suc (length l) ≡ n - length l = omega arith in
    ap (λ k. f x ∷ (map f l ++ replicate k (f d))) e ∙ ap (λ m. f x ∷ m) (padded f d l n (omega arith))

K-by_count : (k : Circuit) (M : MatrixName) → at (sizes_of k).|K| M ≡ size_for (length (at k.matrices M))
unfolding sizes_of
K-by_count k A = refl
K-by_count k B = refl
K-by_count k C = refl

-- four lists of length n
abbrev pub Lengths : ℕ → Index (List ℕ) → Type 0
Lengths n l = IndexLengths n l.row l.col l.rowcol l.rowcolval

-- |K_M| from the words of the entries
abbrev pub K-size : List ℕ → ℕ
K-size l = size_for (length (entries_of l))

-- the entry after the last one
abbrev no_entry : Entry
no_entry = record { row = 0; column = 0; value = 0 }

-- the words of values, interpolated
abbrev interpolated : Prime → List ℕ → List ℕ
interpolated q w = words (interpolate (length w) (map (of {q = q}) w))

read_back : {q : Prime} (n : ℕ) (f : List (Elem q)) (w : List ℕ) → length w ≡ n → w ≡ words f → interpolated q w ≡ words (interpolate n f)
read_back {q} n f w long e = ap₂ (λ (m : ℕ) (f : List (Elem q)). words (interpolate m f)) long (of_results f e)

module _ (q : Prime) (k : Circuit) (M : MatrixName) (l : List ℕ) (h : EntryWords l) (entries : at k.matrices M ≡ entries_of l) where
  placed_by_words : (f : Entry → Elem q) (a : Elem q) → a ≡ f no_entry
      → placed k M a f ≡ interpolate (K-size l) (tabulate (K-size l) (λ i. f (entry_words l i)))
  unfolding placed
  placed_by_words f a e =
      let n : ℕ = K-size l in
      let few : length (entries_of l) ≤ n = size_for_holds (length (entries_of l)) (omega (arith, length-entries_of l, h.few)) in
      let K : at (sizes_of k).|K| M ≡ n = K-by_count k M ∙ ap (λ es. size_for (length es)) entries in
      ap₂ (λ (m : ℕ) (es : List Entry). interpolate m (map f es ++ replicate (m - length es) a)) K entries
      ∙ ap (λ a. interpolate n (map f (entries_of l) ++ replicate (n - length (entries_of l)) a)) e
      ∙ ap (interpolate n) (padded f no_entry (entries_of l) n few ∙ ap (tabulate n) (fun_ext (λ i. ap f (entry_or_zeros l i h.whole))))

  -- the index polynomials are those of the values
  pub index_by_words : index {q = q} k M ≡ map_index (interpolate (K-size l)) (index_values k l (K-size l))
  unfolding index row_element column_element element
  index_by_words = λ t.
      record {
        row = placed_by_words (row_element k) 𝟙 refl t;
        col = placed_by_words (column_element k) 𝟙 refl t;
        rowcol = placed_by_words (λ e. row_element k e ⊗ column_element k e) 𝟙 (sym (mul_one 𝟙)) t;
        rowcolval =
            placed_by_words (λ e. row_element k e ⊗ column_element k e ⊗ of e.value) 𝟘 (sym (mul-zero (prime_ring q) (𝟙 ⊗ 𝟙))) t;
      }

  -- four lists of words that interpolate those of the values
  pub index_interpolated : (n : ℕ) → n ≡ K-size l → (v : Index (List ℕ)) → Lengths (K-size l) v
      → v ≡ map_index words (index_values {q = q} k l n) → {row col rowcol rowcolval : List ℕ} → row ≡ interpolated q v.row
      → col ≡ interpolated q v.col → rowcol ≡ interpolated q v.rowcol → rowcolval ≡ interpolated q v.rowcolval
      → index_lists row col rowcol rowcolval ≡ map_index words (index {q = q} k M)
  index_interpolated n size v long made row col rowcol rowcolval =
      let f : Index (List (Elem q)) = index_values k l (K-size l) in
      let e : v ≡ map_index words f = made ∙ ap (λ m. map_index words (index_values {q = q} k l m)) size in
      (λ t.
      record {
        row = (row ∙ read_back (K-size l) f.row v.row long.row-length (ap (λ i. i.row) e)) t;
        col = (col ∙ read_back (K-size l) f.col v.col long.col-length (ap (λ i. i.col) e)) t;
        rowcol = (rowcol ∙ read_back (K-size l) f.rowcol v.rowcol long.rowcol-length (ap (λ i. i.rowcol) e)) t;
        rowcolval = (rowcolval ∙ read_back (K-size l) f.rowcolval v.rowcolval long.rowcolval-length (ap (λ i. i.rowcolval) e)) t;
      })
      ∙ ap (map_index words) (sym index_by_words)

-- powers of the root, lent by an array and read back from it, are the elements of the domain of size m, which is n
pub listed : (q : Prime) {m n g : ℕ} (l : List ℕ) → m ≡ n → (fits : n ≤ 1024) → length l ≡ length (take n (array 1024))
    → g ≡ (root {q = q} n).word → l ≡ words (tabulate (length (take n (array 1024))) (pow (prime_ring q) (of g)))
    → take n (returned 1024 n l) ≡ words (domain {q = q} m)
listed q {m} {n} {g} l same fits kept at-root made =
    back_is 1024 fits l kept ∙ made ∙ powers-domain q n g (length (take n (array 1024))) (sym (lent_length 1024 fits)) at-root
    ∙ ap (λ (k : ℕ). words (domain {q = q} k)) (sym same)
