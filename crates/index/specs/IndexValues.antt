-- The values of a matrix's index polynomials on K_M, from the words of its entries, and lists of the elements of R and C.
-- Assumes nothing.
use Rattle.std.specs.Prelude.{◌≡◌, true, List, ℕ}
use Rattle.algebra.specs.Lists.{tabulate}
use Rattle.field.specs.Prime.{Prime}
use Rattle.field.specs.Element.{Elem, words}
use Rattle.domain.specs.Size.{is_size}
use Rattle.domain.specs.Domain.{domain}
use Rattle.protocol.specs.Circuit.{Circuit}
use Rattle.protocol.specs.Three.{A, B, C}
use Rattle.protocol.specs.Index.{Index, map_index, index}
use Rattle.protocol.proofs.IndexPolynomials.{entry_index}
use Rattle.circuit.specs.Given.{entry_words}

-- four values at each of n places, as four lists
abbrev pub tabulate_index : {T : Type 0} → ℕ → (ℕ → Index T) → Index (List T)
tabulate_index n f =
    record {
      row = tabulate n (λ i. (f i).row);
      col = tabulate n (λ i. (f i).col);
      rowcol = tabulate n (λ i. (f i).rowcol);
      rowcolval = tabulate n (λ i. (f i).rowcolval);
    }

-- the values at the first n places: past the last entry row, column and value are 0
abbrev pub index_values : {q : Prime} → Circuit → List ℕ → ℕ → Index (List (Elem q))
index_values k entries n = tabulate_index n (λ i. entry_index k (entry_words entries i))

-- |R| and |C| are sizes, and the lists have the words of the elements of R and of C
pub record Listed (q : Prime) (k : Circuit) (rows columns : List ℕ) : Type 0 where
  pub R-size : is_size k.|R| ≡ true
  pub C-size : is_size k.|C| ≡ true
  pub R-words : rows ≡ words (domain {q = q} k.|R|)
  pub C-words : columns ≡ words (domain {q = q} k.|C|)

-- the words of the index polynomials of A, B and C
pub record ThreeIndexed (q : Prime) (k : Circuit) (a b c : Index (List ℕ)) : Type 0 where
  pub of-a : a ≡ map_index words (index {q = q} k A)
  pub of-b : b ≡ map_index words (index {q = q} k B)
  pub of_c : c ≡ map_index words (index {q = q} k C)
