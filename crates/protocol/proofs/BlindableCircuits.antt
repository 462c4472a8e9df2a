-- What is known of a circuit that blinding lets through. Assumes nothing.
use mathlib.Core.Path.{◌≡◌, refl}
use mathlib.Core.Bool.{Bool, true, false, not, ◌||◌, true≢false}
use mathlib.Core.Logic.{◌≢◌}
use mathlib.Core.List.{List, [], ◌∷◌, ◌++◌}
use mathlib.Core.Option.{none}
use Prim.Native.Nat.{ℕ, ◌-◌, ◌<◌, ◌≤◌}
use lib.Dec.{eqb, leb, ltb}
use lib.ListN.{length}
use native.Mathlib.Omega.{arith}
use borrow.Author.Tests.{ltb-true, leb-true, eqb-false, not-true, le-leb}
use Rattle.algebra.specs.Counting.{All}
use Rattle.algebra.specs.Lists.{any}
use Rattle.algebra.proofs.Counting.{all_map, append_all}
use Rattle.algebra.proofs.Keeping.{none_any}
use Rattle.field.specs.Prime.{Prime}
use Rattle.domain.specs.Size.{max_size}
use Rattle.protocol.specs.Three.{MatrixName, A, B, C, at, listed}
use Rattle.protocol.specs.Circuit.{Entry, Circuit}
use Rattle.protocol.specs.Refusals.{first, list_refusal}
use Rattle.protocol.specs.Admission.{Admitted, count_tests, circuit_refusals}
use Rattle.protocol.specs.Blinded.{private_columns, reserved_row, reserved_columns, stands_reserved, reservable}
use Rattle.protocol.specs.Blinded.{blinding_refusal, room_tests, Blindable}
use Rattle.protocol.specs.Blinding.{Public}
use Rattle.protocol.proofs.RefusalLaws.{first-none, none_first, refuse-none, and-true}
use Rattle.protocol.proofs.AdmissionLaws.{WellFormed, admitted_well_formed}
use Rattle.protocol.proofs.AdmittedCircuits.{rows_with_lists}
use Rattle.protocol.proofs.PrivateColumns.{private_count, columns_rise, columns_private}

-- an entry stands neither in the reserved row nor in a reserved column
pub record Unreserved (c : Circuit) (e : Entry) : Type 0 where
  pub other_row : e.row ≢ reserved_row c
  pub other_column : (M : MatrixName) → e.column ≢ at (reserved_columns c) M

-- a well-formed circuit with room for one more entry in each matrix, and none in the reserved row and columns, which stand as they should
pub record Blinds (p : ℕ) (c : Circuit) : Type 0 where
  pub well_formed : WellFormed p c
  pub room : (M : MatrixName) → length (at c.matrices M) < max_size
  pub lowest : (reserved_columns c).a < (reserved_columns c).b
  pub middle : (reserved_columns c).b < (reserved_columns c).c
  pub highest : (reserved_columns c).c < c.|C|
  pub not_public : (M : MatrixName) → ¬ Public c (at (reserved_columns c) M)
  pub unreserved : (M : MatrixName) → All (Unreserved c) (at c.matrices M)

-- room for one more entry in each matrix is room for those that are there
few_roomy : (n : ℕ) → ltb n max_size ≡ true → leb n max_size ≡ true
few_roomy n room = le-leb n max_size (omega (arith, ltb-true n max_size room))

pub room-admitted : (q : Prime) (c : Circuit) → first (circuit_refusals q c (room_tests c) []) ≡ none → Admitted q c
unfolding count_tests room_tests
room-admitted q c =
    rows_with_lists q c (room_tests c) (count_tests c) []
    (λ t. (
      few_roomy (length c.matrices.a) t.0,
      (few_roomy (length c.matrices.b) t.1.0, (few_roomy (length c.matrices.c) t.1.1.0, tt)),
    ))

-- neither of two tests passes
or_false : (a b : Bool) → (a || b) ≡ false → (a ≡ false) × (b ≡ false)
or_false true b e = absurd (true≢false e)
or_false false b e = (refl, e)

-- an entry that does not stand in the reserved row or columns
entry_unreserved : (c : Circuit) (e : Entry) → stands_reserved c e ≡ false → Unreserved c e
entry_unreserved c e fails =
    let (row, columns) = or_false (eqb e.row (reserved_row c)) (any (eqb e.column) (listed (reserved_columns c))) fails in
    let (a, (b, (d, _))) = none_any (eqb e.column) (listed (reserved_columns c)) columns in
    record {
      other_row = eqb-false e.row (reserved_row c) row;
      other_column = elim [
        | A ↦ eqb-false e.column (reserved_columns c).a a
        | B ↦ eqb-false e.column (reserved_columns c).b b
        | C ↦ eqb-false e.column (reserved_columns c).c d
      ];
    }

module _ (q : Prime) (c : Circuit) (blindable : Blindable q c) where
  -- what the rows of the table say of it
  rows_pass : (first (circuit_refusals q c (room_tests c) []) ≡ none) × (blinding_refusal c ≡ none)
  rows_pass =
      let rows = first-none (circuit_refusals q c (room_tests c) [] ++ (blinding_refusal c ∷ [])) blindable in
      let (free, (blinding, _)) = append_all (λ o. o ≡ none) (circuit_refusals q c (room_tests c) []) (blinding_refusal c ∷ []) rows in
      (none_first (circuit_refusals q c (room_tests c) []) free, blinding)

  blindable_well_formed : WellFormed q.p c
  blindable_well_formed = admitted_well_formed q c (room-admitted q c rows_pass.0)

  blinding_tests : (3 ≤ length (private_columns c)) × All (Unreserved c) (c.matrices.a ++ (c.matrices.b ++ c.matrices.c))
  unfolding blinding_refusal
  blinding_tests =
      let entries : List Entry = c.matrices.a ++ (c.matrices.b ++ c.matrices.c) in
      let (both, _) = refuse-none 15 0 (reservable c ∷ []) rows_pass.1 in
      let (columns, outside) = and-true (leb 3 (length (private_columns c))) (not (any (stands_reserved c) entries)) both in (
        leb-true 3 (length (private_columns c)) columns,
        all_map (entry_unreserved c) entries (none_any (stands_reserved c) entries (not-true (any (stands_reserved c) entries) outside)),
      )

  -- at least three columns are not public
  pub enough-columns : 3 ≤ c.|C| - c.|X|
  enough-columns =
      let w = blindable_well_formed in
      omega (arith, blinding_tests.0, private_count c w.C-size w.X-size w.X-within)

  pub blindable-blinds : Blinds q.p c
  unfolding circuit_refusals list_refusal room_tests
  blindable-blinds =
      let w = blindable_well_formed in
      let entries : MatrixName → List Entry = at c.matrices in
      let (_, (lists, _)) = first-none (circuit_refusals q c (room_tests c) []) rows_pass.0 in
      let (a, (b, (d, _))) = refuse-none 5 0 (room_tests c) lists in
      let (lowest, (middle, highest)) = columns_rise c w.C-size w.X-size w.X-within enough-columns in
      let (outside-a, rest) = append_all (Unreserved c) (entries A) (entries B ++ entries C) blinding_tests.1 in
      let (outside_b, outside-c) = append_all (Unreserved c) (entries B) (entries C) rest in
      record {
        well_formed = w;
        room = elim [
          | A ↦ ltb-true (length (entries A)) max_size a
          | B ↦ ltb-true (length (entries B)) max_size b
          | C ↦ ltb-true (length (entries C)) max_size d
        ];
        lowest = lowest;
        middle = middle;
        highest = highest;
        not_public = columns_private c w.C-size w.X-size w.X-within enough-columns;
        unreserved = elim [ A ↦ outside-a | B ↦ outside_b | C ↦ outside-c ];
      }
