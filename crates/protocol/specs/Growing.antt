-- Document 02, request 3: "Circuits that grow by the entry". What additions and removals do to a circuit, and what is known of memory after
-- any sequence of them. Statements only; the proofs are in proofs/Growing. Assumes nothing.
use Rattle.std.specs.Prelude.{◌≡◌, Bool, true, not, ◌&&◌, ℕ, ◌+◌, ◌<◌, eqb, ltb, length, get_or}
use mathlib.Core.List.{List, [], ◌∷◌, ◌++◌, Permᴰ}
use Rattle.algebra.specs.Lists.{keep, any}
use Rattle.field.specs.Prime.{Prime}
use Rattle.domain.specs.Size.{max_size}
use Rattle.protocol.specs.Three.{MatrixName, A, B, C, Three, at, map_three}
use Rattle.protocol.specs.Circuit.{Entry, Circuit}
use Rattle.protocol.specs.Index.{Index}
use Rattle.protocol.specs.Refusals.{Outcome, Done, Refused, map_outcome, onwards, judged, first, refuse, list_refusal, word_refusal, rises, fits}
use Rattle.protocol.specs.Admission.{Admitted}
use Rattle.protocol.specs.Calls.{CircuitWords, words_of_entries, circuit_of, index_call}
use Rattle.protocol.specs.Grown.{row_entries, stored, grown_words, total_place, counts_place, grown_circuit, empty_circuit, begin_call, begin_from_call, add_entry_call, remove_entry_call, find_row_call, row_call, grown_index_call}

-- the number by which calls name a matrix
abbrev pub number : MatrixName → ℕ
number A = 0
number B = 1
number C = 2

-- "rising strictly by row and then column": each entry stands before the next
abbrev pub Rise : List Entry → Type 0
Rise es = (front back : List Entry) (d e : Entry) → es ≡ front ++ (d ∷ (e ∷ back)) → rises d e ≡ true

-- the circuit with other entries in one matrix
abbrev pub replace : {T : Type 0} → Three T → MatrixName → T → Three T
replace t A new = record { a = new; b = t.b; c = t.c }
replace t B new = record { a = t.a; b = new; c = t.c }
replace t C new = record { a = t.a; b = t.b; c = new }

abbrev pub changed : Circuit → MatrixName → List Entry → Circuit
changed k M es = record { |R| = k.|R|; |C| = k.|C|; |X| = k.|X|; matrices = replace k.matrices M es }

-- the entry stands at row i, column j
abbrev pub stands_at : ℕ → ℕ → Entry → Bool
stands_at i j e = eqb e.row i && eqb e.column j

-- entries with one more, after those that stand before it; and without the one at row i, column j
unfoldable pub entries_with : Entry → List Entry → List Entry
entries_with e es = keep (λ d. rises d e) es ++ (e ∷ keep (λ d. not (rises d e)) es)

unfoldable pub entries_without : ℕ → ℕ → List Entry → List Entry
entries_without i j = keep (λ d. not (stands_at i j d))

-- an addition and a removal on the circuit itself
unfoldable pub addition : Prime → Circuit → MatrixName → Entry → Outcome Circuit
addition q k M e =
    let es : List Entry = at k.matrices M in
    judged
    (first
    (list_refusal (ltb (length es) max_size ∷ [])
    ∷ word_refusal q (e.value ∷ [])
    ∷ refuse 7 0 (fits k e ∷ [])
    ∷ refuse 14 0 (not (any (stands_at e.row e.column) es) ∷ [])
    ∷ []))
    (changed k M (entries_with e es))

unfoldable pub removal : Circuit → MatrixName → ℕ → ℕ → Outcome Circuit
removal k M i j =
    let es : List Entry = at k.matrices M in
    judged (refuse 14 0 (any (stands_at i j) es ∷ [])) (changed k M (entries_without i j es))

-- memory that holds what a call would have stored for the circuit that is in it, and this is let through
pub record Correct (q : Prime) (w : List ℕ) : Type 0 where
  pub held : w ≡ stored (grown_circuit w)
  pub admitted : Admitted q (grown_circuit w)

-- the beginnings, and the changes by number of the matrix
pub data Beginning : Type 0 where
  Empty : ℕ → ℕ → ℕ → Beginning
  From : CircuitWords → Beginning

abbrev pub begun : Prime → Beginning → Outcome (List ℕ)
begun q (Empty r c x) = begin_call r c x
begun q (From c) = begin_from_call q c

pub data Change : Type 0 where
  Add : ℕ → Entry → Change
  Remove : ℕ → ℕ → ℕ → Change

abbrev pub change : Prime → List ℕ → Change → Outcome (List ℕ)
change q w (Add n e) = add_entry_call q w n e
change q w (Remove n i j) = remove_entry_call w n i j

-- the memory after a change, refused or not, and after a sequence of them
abbrev pub left : List ℕ → Outcome (List ℕ) → List ℕ
left w (Done next) = next
left w (Refused r) = w

abbrev pub after_changes : Prime → List ℕ → List Change → List ℕ
after_changes q w [] = w
after_changes q w (c ∷ cs) = after_changes q (left w (change q w c)) cs

-- additions one after the other, each of them taken: the memory, or the first refusal
abbrev pub add_all : Prime → List ℕ → List (ℕ × Entry) → Outcome (List ℕ)
add_all q w [] = Done w
add_all q w (first ∷ rest) = onwards (λ next. add_all q next rest) (add_entry_call q w first.0 first.1)

-- the entries of a circuit handed over as lists
abbrev pub handed_over : Circuit → CircuitWords
handed_over k = record { |R| = k.|R|; |C| = k.|C|; |X| = k.|X|; matrices = map_three words_of_entries k.matrices }

-- the entries of a matrix in memory
abbrev pub entries_in : List ℕ → MatrixName → List Entry
entries_in w M = at (grown_circuit w).matrices M

-- for every prime
pub record Growing (q : Prime) : Type 0 where
  -- "A circuit in memory, begun empty or from accepted lists": memory then holds the circuit without entries, or the circuit of the lists;
  -- with `always-correct`, before any change, that is every word of it
  pub begins_empty : (r c x : ℕ) (w : List ℕ) → begin_call r c x ≡ Done w → grown_circuit w ≡ empty_circuit r c x
  pub begins_from : (c : CircuitWords) (w : List ℕ) → begin_from_call q c ≡ Done w → grown_circuit w ≡ circuit_of c
  -- "correct after every addition and removal": from either beginning, after every sequence of changes, refused ones too, memory holds a
  -- circuit as it is stored, and the table of refusals lets this through
  pub always_correct : (b : Beginning) (w : List ℕ) → begun q b ≡ Done w → (cs : List Change) → Correct q (after_changes q w cs)
  -- it has the same number of words then, whatever the circuit is
  pub words-counted : (w : List ℕ) → Correct q w → length w ≡ grown_words
  -- so "the count of entries in each row and the total" are the numbers of entries there are, and these rise strictly
  pub total-counted : (w : List ℕ) → Correct q w → (M : MatrixName) → get_or w (total_place (number M)) 0 ≡ length (entries_in w M)
  pub rows-counted :
      (w : List ℕ) → Correct q w → (M : MatrixName) (i : ℕ) → i < max_size
      → get_or w (counts_place (number M) + i) 0 ≡ length (row_entries i (entries_in w M))
  pub entries_rise : (w : List ℕ) → Correct q w → (M : MatrixName) → Rise (entries_in w M)
  -- adding and removing are those of the circuit, refusals included
  pub adds :
      (w : List ℕ) → Correct q w → (M : MatrixName) (e : Entry)
      → add_entry_call q w (number M) e ≡ map_outcome stored (addition q (grown_circuit w) M e)
  pub removes :
      (w : List ℕ) → Correct q w → (M : MatrixName) (i j : ℕ)
      → remove_entry_call w (number M) i j ≡ map_outcome stored (removal (grown_circuit w) M i j)
  -- an addition adds just that entry, a removal takes just the one that stands there
  pub adds_just :
      (w next : List ℕ) → Correct q w → (M : MatrixName) (e : Entry) → add_entry_call q w (number M) e ≡ Done next
      → (front : List Entry) × ((back : List Entry) × ((entries_in w M ≡ front ++ back)
      × (grown_circuit next ≡ changed (grown_circuit w) M (front ++ (e ∷ back)))))
  pub removes_just :
      (w next : List ℕ) → Correct q w → (M : MatrixName) (i j : ℕ) → remove_entry_call w (number M) i j ≡ Done next
      → (front : List Entry) × ((e : Entry) × ((back : List Entry) × ((stands_at i j e ≡ true) × ((entries_in w M ≡ front ++ (e ∷ back))
      × (grown_circuit next ≡ changed (grown_circuit w) M (front ++ back))))))
  -- "A row's entries, exactly these and by column"; "a row past its domain is 7", in memory that no call made too
  pub row-entries :
      (w : List ℕ) → Correct q w → (M : MatrixName) (i : ℕ) → i < (grown_circuit w).|R|
      → row_call w (number M) i ≡ words_of_entries (row_entries i (entries_in w M))
  pub row_past : (w : List ℕ) (n i : ℕ) → ¬ (i < (grown_circuit w).|R|) → find_row_call w n i ≡ Refused (record { number = 7; position = 0 })
  -- a number above 2 names no matrix: it has no room, no entry and no row, in memory that no call made too
  pub no_such_matrix :
      (w : List ℕ) (n : ℕ) → ¬ (n < 3)
      → ((e : Entry) → add_entry_call q w n e ≡ Refused (record { number = 5; position = 0 }))
      × (((i j : ℕ) → remove_entry_call w n i j ≡ Refused (record { number = 14; position = 0 }))
      × ((i : ℕ) → find_row_call w n i ≡ Refused (record { number = 7; position = 0 })))
  -- "The indexer gives for a grown circuit what it gives for the same entries handed over as a list", refusals of lent slices included
  pub indexes :
      (w : List ℕ) → Correct q w → (lent : Three (Index ℕ)) → grown_index_call q w lent ≡ index_call q (handed_over (grown_circuit w)) lent
  -- entries that are added in one order are added in every other, and give the same memory
  pub any_order :
      (w next : List ℕ) → Correct q w → (entries reordered : List (ℕ × Entry)) → Permᴰ entries reordered
      → add_all q w entries ≡ Done next → add_all q w reordered ≡ Done next
