-- The call of blinding: what it answers, and which rows passed where it refuses. Assumes nothing.
use mathlib.Core.Path.{◌≡◌, sym, ap, ap₂, ◌∙◌}
use mathlib.Core.Logic.{◌≢◌}
use mathlib.Core.Bool.{Bool, true, ◌&&◌}
use mathlib.Core.List.{List, [], ◌∷◌, ◌++◌, map}
use mathlib.Core.Option.{Option, none, some, none-ne-some}
use Prim.Native.Nat.{ℕ, ◌+◌, ◌*◌, ◌%◌, ◌<◌}
use lib.Dec.{eqb, ltb}
use lib.ListN.{length}
use native.Mathlib.Omega.{arith}
use borrow.Author.Tests.{ltb-true, lt-ltb, eqb-true}
use Rattle.algebra.specs.Counting.{All}
use Rattle.algebra.proofs.Counting.{append_all}
use Rattle.field.specs.Prime.{Prime}
use Rattle.field.specs.Element.{of}
use Rattle.domain.specs.Size.{max_size}
use Rattle.protocol.specs.Three.{Three, listed, map_three}
use Rattle.protocol.specs.Circuit.{Circuit}
use Rattle.protocol.specs.Refusals.{Refusal, Refused, Done, first, pairs, begins_with_one, list_refusal, constant_refusal}
use Rattle.protocol.specs.Admission.{Admitted, circuit_refusals}
use Rattle.protocol.specs.Calls.{CircuitWords, entries_of, circuit_of}
use Rattle.protocol.specs.Blinded.{reservable, blinding_refusal, blinded_circuit, blinded_assignment, room_tests, roomy_list_tests}
use Rattle.protocol.specs.Blinded.{blinded_words, Blindable, blind_refusal, blind_call}
use Rattle.protocol.proofs.RefusalLaws.{first-none, refuse-none, none-refuse, and-true, judged-done}
use Rattle.protocol.proofs.RefusalLaws.{judged-refused, past, past_circuit}
use Rattle.protocol.proofs.Rows.{first_append, first_before_last}
use Rattle.protocol.proofs.AdmittedCircuits.{rows_with_lists}
use Rattle.protocol.proofs.EntryLists.{length-entries_of}
use Rattle.protocol.proofs.EntryWords.{circuit_back}
use Rattle.protocol.proofs.BlindableCircuits.{room-admitted}
use Rattle.protocol.proofs.BlindedAssignments.{map-blinded}

-- lists of whole entries, below 3 · 1,024 words long, have room for one entry more
room_in_list : (l : List ℕ) → (eqb (length l % 3) 0 && ltb (length l) (3 * max_size)) ≡ true → ltb (length (entries_of l)) max_size ≡ true
room_in_list l t =
    let short = ltb-true (length l) (3 * max_size) (and-true (eqb (length l % 3) 0) (ltb (length l) (3 * max_size)) t).1 in
    lt-ltb (length (entries_of l)) max_size (omega (arith, short, length-entries_of l))

roomy_room : (c : CircuitWords) → All (λ t. t ≡ true) (roomy_list_tests c) → All (λ t. t ≡ true) (room_tests (circuit_of c))
unfolding roomy_list_tests room_tests circuit_of
roomy_room c t =
    (room_in_list c.matrices.a t.0, (room_in_list c.matrices.b t.1.0, (room_in_list c.matrices.c t.1.1.0, tt)))

module _ (q : Prime) (c : CircuitWords) (z : List ℕ) (ρ lent : Three ℕ) (lentAssignment : ℕ) where
  abbrev k : Circuit
  k = circuit_of c

  -- the tests of the lists after the circuit's own, and all of them
  abbrev other_tests : List Bool
  other_tests =
      eqb (length z) c.|C|
      ∷ (pairs eqb (listed lent) (listed (map_three (λ l. length l + 3) c.matrices)) ++ (eqb lentAssignment c.|C| ∷ []))

  abbrev list_tests : List Bool
  list_tests = roomy_list_tests c ++ other_tests

  abbrev ws : List ℕ
  ws = z ++ listed ρ

  abbrev late_rows : List (Option Refusal)
  late_rows = blinding_refusal k ∷ constant_refusal z ∷ []

  -- a circuit that 4 to 7 of the call let through has room, and one that 15 lets through too can be blinded
  room-passes : first (circuit_refusals q k list_tests ws) ≡ none → first (circuit_refusals q k (room_tests k) []) ≡ none
  room-passes =
      rows_with_lists q k list_tests (room_tests k) ws
      (λ t. roomy_room c (append_all (λ t. t ≡ true) (roomy_list_tests c) other_tests t).0)

  blindable : first (circuit_refusals q k (room_tests k) []) ≡ none → blinding_refusal k ≡ none → Blindable q k
  blindable early late =
      first_before_last (circuit_refusals q k (room_tests k) []) (blinding_refusal k) ∙ ap₂ (λ u v. first (u ∷ v ∷ [])) early late

  module _ (f : Refusal) (refused : blind_call q c z ρ lent lentAssignment ≡ Refused f) where
    refusal : first (circuit_refusals q k list_tests ws ++ late_rows) ≡ some f
    unfolding blind_call blind_refusal
    refusal = judged-refused (blind_refusal q c z ρ lent lentAssignment) _ refused

    -- 4 to 7 are past, and then 15
    circuit_past : 7 < f.number → (first (circuit_refusals q k (room_tests k) []) ≡ none) × (first late_rows ≡ some f)
    circuit_past later = let (free, rest) = past_circuit q k list_tests ws late_rows f refusal later in (room-passes free, rest)

    blinding_past : 7 < f.number → f.number ≢ 15 → (blinding_refusal k ≡ none) × (first (constant_refusal z ∷ []) ≡ some f)
    unfolding blinding_refusal
    blinding_past later other =
        let (passes, rest) = past 15 0 (reservable k ∷ []) (constant_refusal z ∷ []) f (circuit_past later).1 other in
        (none-refuse 15 0 (reservable k ∷ []) passes, rest)

    -- the refusal is not 9; 15 comes after 7, and 13 after 15
    pub never_nine : f.number ≢ 9
    unfolding constant_refusal
    never_nine nine =
        let rest = (blinding_past (omega arith) (λ e. omega arith)).1 in
        none-ne-some f (past 13 0 (begins_with_one z ∷ []) [] f rest (λ e. omega arith)).1

    pub blinding_after-entries : f.number ≡ 15 → Admitted q k
    blinding_after-entries fifteen = room-admitted q k (circuit_past (omega arith)).0

    pub constant-after_blinding : f.number ≡ 13 → Blindable q k
    constant-after_blinding thirteen = blindable (circuit_past (omega arith)).0 (blinding_past (omega arith) (λ e. omega arith)).0

  -- the circuit with other lists of entries
  abbrev circuit_with : Three (List ℕ) → Circuit
  circuit_with lists = circuit_of (record { |R| = c.|R|; |C| = c.|C|; |X| = c.|X|; matrices = lists })

  module _ (lists : Three (List ℕ)) (blinded : List ℕ) (done : blind_call q c z ρ lent lentAssignment ≡ Done (lists, blinded)) where
    -- no row refused, and the result is the blinded circuit's words and the blinded z
    passes : first (first (circuit_refusals q k list_tests ws) ∷ first late_rows ∷ []) ≡ none
    unfolding blind_call blind_refusal
    passes =
        sym (first_append (circuit_refusals q k list_tests ws) late_rows) ∙ (judged-done (blind_refusal q c z ρ lent lentAssignment) _ done).0

    result : ◌≡◌ {A = Three (List ℕ) × List ℕ} (blinded_words c z ρ) (lists, blinded)
    unfolding blind_call
    result = (judged-done (blind_refusal q c z ρ lent lentAssignment) _ done).1

    pub call_blinds :
        Blindable q k
        × ((length z ≡ c.|C|)
        × ((circuit_with lists ≡ blinded_circuit k)
        × (map (of {q = q}) blinded ≡ blinded_assignment k (map of z) (map_three of ρ))))
    unfolding circuit_refusals list_refusal circuit_of blinded_circuit
    call_blinds =
        let (early, (late, _)) = first-none (first (circuit_refusals q k list_tests ws) ∷ first late_rows ∷ []) passes in
        let tests = refuse-none 5 0 list_tests (first-none (circuit_refusals q k list_tests ws) early).1.0 in (
          blindable (room-passes early) (first-none late_rows late).0,
          (
            eqb-true (length z) c.|C| (append_all (λ t. t ≡ true) (roomy_list_tests c) other_tests tests).1.0,
            (
              ap (λ (r : Three (List ℕ) × List ℕ). circuit_with r.0) (sym result) ∙ circuit_back (blinded_circuit k),
              ap (λ (r : Three (List ℕ) × List ℕ). map (of {q = q}) r.1) (sym result) ∙ map-blinded of k z ρ,
            ),
          ),
        )
