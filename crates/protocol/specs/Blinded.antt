-- Blinding (document 02, request 4): the row and the columns that are reserved for the three blinding values, the circuit and the
-- assignment with them, and the call as a function of words. (What is known of them is in Blinding.) Assumes nothing.
use Rattle.std.specs.Prelude.{◌≡◌, Bool, not, ◌&&◌, ◌||◌, List, [], ◌∷◌, ◌++◌, ℕ, ◌+◌, ◌-◌, ◌*◌, ◌/◌, ◌%◌, eqb, leb, ltb, length, get_or, set}
use Rattle.std.proofs.Math.Option.{Option, none}
use Rattle.algebra.specs.Lists.{tabulate, keep, any}
use Rattle.field.specs.Prime.{Prime}
use Rattle.domain.specs.Size.{max_size}
use Rattle.protocol.specs.Three.{MatrixName, Three, at, each, listed, map_three}
use Rattle.protocol.specs.Circuit.{Entry, Circuit}
use Rattle.protocol.specs.Refusals.{Refusal, Outcome, judged, first, refuse, pairs, constant_refusal}
use Rattle.protocol.specs.Admission.{circuit_refusals}
use Rattle.protocol.specs.Calls.{CircuitWords, words_of_entries, circuit_of}

module _ (c : Circuit) where
  -- the columns that are not public, rising: "column i is public exactly when i is a multiple of |C|/|X|" (document 01)
  unfoldable pub private_columns : List ℕ
  private_columns = keep (λ i. not (eqb (i % (c.|C| / c.|X|)) 0)) (tabulate c.|C| (λ i. i))

  -- "The last row and the three highest columns that aren't public"; of these the lowest is A's, the middle B's, the highest C's
  abbrev pub reserved_row : ℕ
  reserved_row = c.|R| - 1

  unfoldable pub reserved_columns : Three ℕ
  reserved_columns =
      let n : ℕ = length private_columns in
      record { a = get_or private_columns (n - 3) 0; b = get_or private_columns (n - 2) 0; c = get_or private_columns (n - 1) 0 }

  -- an entry stands in the reserved row or in a reserved column
  abbrev pub stands_reserved : Entry → Bool
  stands_reserved e = eqb e.row reserved_row || any (eqb e.column) (listed reserved_columns)

  -- row and columns can be reserved: there are three such columns, and no entry stands in them or in the row
  abbrev pub reservable : Bool
  reservable =
      let m : Three (List Entry) = c.matrices in
      leb 3 (length private_columns) && not (any stands_reserved (m.a ++ (m.b ++ m.c)))

  -- 15, blinding: "a circuit with fewer than three such columns or with an entry in the reserved row or columns", "after the entry check"
  -- (document 02, request 4); its position is 0
  unfoldable pub blinding_refusal : Option Refusal
  blinding_refusal = refuse 15 0 (reservable ∷ [])

  -- "A, B and C get value 1 in that row at the lowest, middle and highest of them": in the last row, so after all other entries
  abbrev pub blinding_entry : MatrixName → Entry
  blinding_entry M = record { row = reserved_row; column = at reserved_columns M; value = 1 }

  unfoldable pub blinded_circuit : Circuit
  blinded_circuit =
      record {
        |R| = c.|R|;
        |C| = c.|C|;
        |X| = c.|X|;
        matrices = each (λ M. at c.matrices M ++ (blinding_entry M ∷ []));
      }

  -- "and z gets ρ_A, ρ_B, ρ_C there"
  unfoldable pub blinded_assignment : {T : Type 0} → List T → Three T → List T
  blinded_assignment z ρ =
      let k : Three ℕ = reserved_columns in
      set (set (set z k.a ρ.a) k.b ρ.b) k.c ρ.c

  -- "The 1,024 entries include the added one": a test for each matrix
  unfoldable pub room_tests : List Bool
  room_tests = listed (map_three (λ entries. ltb (length entries) max_size) c.matrices)

-- whole entries, with room for one more: a test for each matrix
unfoldable pub roomy_list_tests : CircuitWords → List Bool
roomy_list_tests c = listed (map_three (λ l. eqb (length l % 3) 0 && ltb (length l) (3 * max_size)) c.matrices)

-- the blinded entry lists and the blinded z
abbrev pub blinded_words : CircuitWords → List ℕ → Three ℕ → Three (List ℕ) × List ℕ
blinded_words c z ρ = (map_three words_of_entries (blinded_circuit (circuit_of c)).matrices, blinded_assignment (circuit_of c) z ρ)

module _ (q : Prime) where
  -- every circuit that blinding lets through
  abbrev pub Blindable : Circuit → Type 0
  Blindable c = first (circuit_refusals q c (room_tests c) [] ++ (blinding_refusal c ∷ [])) ≡ none

  module _ (c : CircuitWords) (z : List ℕ) (ρ : Three ℕ) where
    -- 4, 5, 6, 7, 15 and 13, from the lengths of the slices lent for the entries of A, B, C and for z; never 9
    unfoldable pub blind_refusal : Three ℕ → ℕ → Option Refusal
    blind_refusal lent lentAssignment =
        first
        (circuit_refusals q (circuit_of c)
        (roomy_list_tests c
        ++ (eqb (length z) c.|C|
        ∷ (pairs eqb (listed lent) (listed (map_three (λ l. length l + 3) c.matrices)) ++ (eqb lentAssignment c.|C| ∷ []))))
        (z ++ listed ρ)
        ++ (blinding_refusal (circuit_of c) ∷ constant_refusal z ∷ []))

    -- the blinded entry lists and the blinded z into lent slices
    unfoldable pub blind_call : Three ℕ → ℕ → Outcome (Three (List ℕ) × List ℕ)
    blind_call lent lentAssignment = judged (blind_refusal lent lentAssignment) (blinded_words c z ρ)
