-- The index polynomials of a matrix as four lists of words, and their lengths. Assumes nothing.
use Rattle.std.specs.Prelude.{◌≡◌, List, ◌++◌, ℕ, length}
use Rattle.protocol.specs.Three.{Three}
use Rattle.protocol.specs.Index.{Index, map_index, list_index}

abbrev pub index_lists : List ℕ → List ℕ → List ℕ → List ℕ → Index (List ℕ)
index_lists row col rowcol rowcolval = record { row = row; col = col; rowcol = rowcol; rowcolval = rowcolval }

-- the lengths of the lists of A, B and C, in order
abbrev pub twelve_lengths : Three (Index (List ℕ)) → List ℕ
twelve_lengths t = list_index (map_index length t.a) ++ (list_index (map_index length t.b) ++ list_index (map_index length t.c))

-- four lists of length n
pub record IndexLengths (n : ℕ) (row col rowcol rowcolval : List ℕ) : Type 0 where
  pub row-length : length row ≡ n
  pub col-length : length col ≡ n
  pub rowcol-length : length rowcol ≡ n
  pub rowcolval-length : length rowcolval ≡ n
