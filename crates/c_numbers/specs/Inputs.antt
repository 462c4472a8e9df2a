-- What the arrays that an exported function is given mean. (Three words for A, B, C are the verifier's `threeAt` from place 0.)
-- Assumes nothing.
use Rattle.std.specs.Prelude.{List, [], ◌∷◌, ℕ, ◌+◌, get_or}
use Rattle.shared.specs.declared.Opened.{Opened}
use Rattle.protocol.specs.Circuit.{Sizes}
use Rattle.protocol.specs.Index.{Index}
use Rattle.protocol.specs.Checks.{Openings}
use Rattle.verifier.specs.Session.{three_at}

-- six sizes in trailer order
unfoldable pub sizes_in : List ℕ → Sizes
sizes_in l = record { |R| = get_or l 0 0; |C| = get_or l 1 0; |X| = get_or l 2 0; |K| = three_at l 3 }

-- four openings of a matrix's index polynomials from a place on
abbrev pub index_at : List ℕ → ℕ → Index ℕ
index_at l at = record { row = get_or l at 0; col = get_or l (at + 1) 0; rowcol = get_or l (at + 2) 0; rowcolval = get_or l (at + 3) 0 }

-- the 21 openings in order
unfoldable pub openings_in : List ℕ → Openings ℕ
openings_in l =
    record {
      witness = get_or l 0 0;
      mask = get_or l 1 0;
      line_remainder = get_or l 2 0;
      line_quotient = get_or l 3 0;
      row_quotient = get_or l 4 0;
      joined_quotient = get_or l 5 0;
      matrix_remainders = three_at l 6;
      index = record { a = index_at l 9; b = index_at l 13; c = index_at l 17 };
    }

-- the first nine of them, and the last twelve, as the session's step has them
abbrev pub messages_in : List ℕ → Opened
messages_in l =
    record {
      witness = get_or l 0 0;
      mask = get_or l 1 0;
      line_remainder = get_or l 2 0;
      line_quotient = get_or l 3 0;
      row_quotient = get_or l 4 0;
      joined_quotient = get_or l 5 0;
      matrix_remainders = record { a = get_or l 6 0; b = get_or l 7 0; c = get_or l 8 0 };
    }

abbrev pub indexes_in : List ℕ → List (List ℕ)
indexes_in l =
    (get_or l 9 0 ∷ get_or l 10 0 ∷ get_or l 11 0 ∷ get_or l 12 0 ∷ [])
    ∷ (get_or l 13 0 ∷ get_or l 14 0 ∷ get_or l 15 0 ∷ get_or l 16 0 ∷ [])
    ∷ (get_or l 17 0 ∷ get_or l 18 0 ∷ get_or l 19 0 ∷ get_or l 20 0 ∷ [])
    ∷ []
