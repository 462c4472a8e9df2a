-- The index polynomials, and the entries read back from them (document 01, "Index"). Assumes nothing.
use mathlib.Core.List.{List, [], ◌∷◌, ◌++◌, map, foldr}
use Rattle.std.specs.Prelude.{ℕ, suc, ◌-◌, length, replicate}
use Rattle.algebra.specs.Lists.{pick}
use Rattle.field.specs.Prime.{Prime}
use Rattle.field.specs.Element.{Elem, of, 𝟘, 𝟙, ◌⊗◌, equal}
use Rattle.field.specs.Power.{◌⊘◌}
use Rattle.domain.specs.Domain.{element, domain}
use Rattle.domain.specs.Polynomial.{Poly, eval, interpolate}
use Rattle.protocol.specs.Three.{MatrixName, at}
use Rattle.protocol.specs.Circuit.{Entry, Circuit, Sizes, sizes_of}

-- what there is one of for each of a matrix's four index polynomials
pub record Index (T : Type 0) : Type 0 where
  pub row : T
  pub col : T
  pub rowcol : T
  pub rowcolval : T

abbrev pub map_index : {S T : Type 0} → (S → T) → Index S → Index T
map_index f i = record { row = f i.row; col = f i.col; rowcol = f i.rowcol; rowcolval = f i.rowcolval }

abbrev pub list_index : {T : Type 0} → Index T → List T
list_index i = i.row ∷ i.col ∷ i.rowcol ∷ i.rowcolval ∷ []

-- the values of four polynomials at y
abbrev pub index_at : {q : Prime} → Index (Poly q) → Elem q → Index (Elem q)
index_at i y = map_index (λ f. eval f y) i

module _ {q : Prime} (c : Circuit) where
  -- an entry's row and column as elements of R and C
  unfoldable pub row_element : Entry → Elem q
  row_element e = element c.|R| e.row

  unfoldable pub column_element : Entry → Elem q
  column_element e = element c.|C| e.column

  -- of length |K_M|, "agreeing with the entries in order on K_M"; the places after the last entry hold the filling
  unfoldable pub placed : MatrixName → Elem q → (Entry → Elem q) → Poly q
  placed M filling f =
      let entries : List Entry = at c.matrices M in
      let k : ℕ = at (sizes_of c).|K| M in
      interpolate k (map f entries ++ replicate (k - length entries) filling)

  -- "row, col, rowcol (product of row and column elements) and rowcolval (that product times the value)";
  -- "Places after the last entry have row 1, column 1, product 1 and weighted value 0"
  unfoldable pub index : MatrixName → Index (Poly q)
  index M =
      record {
        row = placed M 𝟙 row_element;
        col = placed M 𝟙 column_element;
        rowcol = placed M 𝟙 (λ e. row_element e ⊗ column_element e);
        rowcolval = placed M 𝟘 (λ e. row_element e ⊗ column_element e ⊗ of e.value);
      }

module _ {q : Prime} where
  -- the place of y in a list
  unfoldable pub place_of : Elem q → List (Elem q) → ℕ
  place_of y [] = 0
  place_of y (x ∷ l) = pick (equal y x) 0 (suc (place_of y l))

  -- the entry at a point of K_M, from the four values there: none where the weighted value is 0
  unfoldable pub entry_at : Sizes → Index (Elem q) → List Entry
  entry_at s v =
      pick (equal v.rowcolval 𝟘) []
      (record { row = place_of v.row (domain s.|R|); column = place_of v.col (domain s.|C|); value = (v.rowcolval ⊘ v.rowcol).word } ∷ [])

  -- the entries of a matrix, from its index polynomials
  unfoldable pub decode : Sizes → MatrixName → Index (Poly q) → List Entry
  decode s M i = foldr (λ y entries. entry_at s (index_at i y) ++ entries) [] (domain (at s.|K| M))
