-- Circuits that grow by the entry (document 02, request 3): how a circuit stands in memory, and the calls on it as functions of its words.
-- They are defined for all words, whether calls made them or not. (What they do to a circuit that calls made is in Growing.)
-- Assumes nothing.
use Rattle.std.specs.Prelude.{Bool, not, ◌&&◌, List, [], ◌∷◌, ◌++◌, ℕ, zero, suc, ◌+◌, ◌-◌, ◌*◌, ◌/◌, min, eqb, ltb, length, get_or, take, drop, set, replicate}
use Rattle.std.proofs.Math.Option.{Option}
use Rattle.std.proofs.Math.Seq.{slice}
use Rattle.algebra.specs.Lists.{pick, tabulate, keep}
use Rattle.field.specs.Prime.{Prime}
use Rattle.domain.specs.Size.{max_size}
use Rattle.protocol.specs.Three.{Three, each}
use Rattle.protocol.specs.Circuit.{Entry, Circuit}
use Rattle.protocol.specs.Index.{Index}
use Rattle.protocol.specs.Refusals.{Refusal, Outcome, Done, Refused, judged, first, refuse, size_tests, size_refusal, list_refusal, word_refusal, fits}
use Rattle.protocol.specs.Admission.{circuit_refusals}
use Rattle.protocol.specs.Calls.{CircuitWords, words_of_entries, circuit_of, entry_list_tests, index_call}

-- the entries of row i, in order
abbrev pub row_entries : ℕ → List Entry → List Entry
row_entries i = keep (λ (e : Entry). eqb e.row i)

-- "for each matrix, the count of entries in each row and the total, stored": the total, 1,024 counts, and room for 1,024 entries with
-- zeros after the last
unfoldable pub stored_matrix : List Entry → List ℕ
stored_matrix es =
    length es
    ∷ (tabulate max_size (λ i. length (row_entries i es)) ++ (words_of_entries es ++ replicate (3 * max_size - 3 * length es) 0))

-- "a circuit in memory": |R|, |C|, |X|, and the matrices A, B, C
unfoldable pub stored : Circuit → List ℕ
stored k =
    k.|R| ∷ k.|C| ∷ k.|X| ∷ (stored_matrix k.matrices.a ++ (stored_matrix k.matrices.b ++ stored_matrix k.matrices.c))

-- how many words a matrix and a circuit take
abbrev pub matrix_words : ℕ
matrix_words = 1 + max_size + 3 * max_size

abbrev pub grown_words : ℕ
grown_words = 3 + 3 * matrix_words

-- the word of the total of matrix n, which is 0 for A, 1 for B, 2 for C; of its first count; of its first entry
abbrev pub total_place : ℕ → ℕ
total_place n = 3 + matrix_words * n

abbrev pub counts_place : ℕ → ℕ
counts_place n = total_place n + 1

abbrev pub entries_place : ℕ → ℕ
entries_place n = counts_place n + max_size

-- the place, from `start` on among `count`, of the first number that is not below j, where the numbers rise: each turn halves what is left.
-- As many turns as there are numbers are more than enough
unfoldable pub first_not_below : (ℕ → ℕ) → ℕ → ℕ → ℕ → ℕ → ℕ
first_not_below numbers j zero start count = start
first_not_below numbers j (suc turns) start zero = start
first_not_below numbers j (suc turns) start (suc before) =
    let half : ℕ = suc before / 2 in
    pick (ltb (numbers (start + half)) j)
    (first_not_below numbers j turns (start + half + 1) (before - half))
    (first_not_below numbers j turns start half)

-- memory with an entry put in at word `from`, the words from there up to `to` moved on by three; and with the entry at `from` taken out,
-- those after it up to `to` moved back and three zeros put after them
unfoldable pub inserted : List ℕ → ℕ → ℕ → Entry → List ℕ
inserted w from to e = take from w ++ (e.row ∷ e.column ∷ e.value ∷ (slice from to w ++ drop (to + 3) w))

unfoldable pub removed : List ℕ → ℕ → ℕ → List ℕ
removed w from to = take from w ++ (slice (from + 3) to w ++ (0 ∷ 0 ∷ 0 ∷ drop to w))

module _ (w : List ℕ) where
  module _ (n : ℕ) where
    -- how many entries matrix n has: what is stored, and in memory that no call made not over 1,024
    unfoldable pub total : ℕ
    total = min (get_or w (total_place n) 0) max_size

    -- the entry with which row i begins: each row begins where the one before it ends, as the counts have it
    unfoldable pub row_start : ℕ → ℕ
    row_start zero = 0
    row_start (suc i) = min (row_start i + get_or w (counts_place n + i) 0) total

    -- how many entries row i has
    abbrev pub row_length : ℕ → ℕ
    row_length i = row_start (suc i) - row_start i

    -- the column of entry k
    abbrev pub column_at : ℕ → ℕ
    column_at k = get_or w (entries_place n + 3 * k + 1) 0

    -- the place of column j in row i: that of its first entry whose column is not below j
    unfoldable pub place_of : ℕ → ℕ → ℕ
    place_of i j = first_not_below column_at j (row_length i) (row_start i) (row_length i)

    -- an entry stands at row i, column j
    unfoldable pub occupied : ℕ → ℕ → Bool
    occupied i j = ltb (place_of i j) (row_start (suc i)) && eqb (column_at (place_of i j)) j

    -- the words of matrix n's entries
    unfoldable pub entry_words_in : List ℕ
    entry_words_in = take (3 * total) (drop (entries_place n) w)

    -- memory with an entry put in at a place, and with the one there taken out of row i; the row had `before` entries
    abbrev pub put_at : ℕ → ℕ → Entry → List ℕ
    put_at place before e =
        set (set (inserted w (entries_place n + 3 * place) (entries_place n + 3 * total) e) (total_place n) (total + 1))
        (counts_place n + e.row) (before + 1)

    abbrev pub taken_at : ℕ → ℕ → ℕ → List ℕ
    taken_at place before i =
        set (set (removed w (entries_place n + 3 * place) (entries_place n + 3 * total)) (total_place n) (total - 1))
        (counts_place n + i) (before - 1)

    -- memory with the entry, and without the entry at row i, column j
    unfoldable pub with_entry : Entry → List ℕ
    with_entry e = put_at (place_of e.row e.column) (row_length e.row) e

    unfoldable pub without_entry : ℕ → ℕ → List ℕ
    without_entry i j = taken_at (place_of i j) (row_length i) i

  -- the circuit in memory, as calls have it, and as it is
  unfoldable pub grown_lists : CircuitWords
  grown_lists =
      record {
        |R| = get_or w 0 0;
        |C| = get_or w 1 0;
        |X| = get_or w 2 0;
        matrices = record { a = entry_words_in 0; b = entry_words_in 1; c = entry_words_in 2 };
      }

  abbrev pub grown_circuit : Circuit
  grown_circuit = circuit_of grown_lists

  -- matrix n is there and has row i: |R| is not over 1,024 but in memory that no call made
  unfoldable pub has_row : ℕ → ℕ → Bool
  has_row n i = ltb n 3 && ltb i max_size && ltb i (get_or w 0 0)

  -- 14, grown circuit: "an addition at a position already occupied", "after the entry check" (document 02, request 3); "a removal where
  -- nothing is, off the matrix too"
  unfoldable pub occupied_refusal : ℕ → ℕ → ℕ → Option Refusal
  occupied_refusal n i j = refuse 14 0 (not (occupied n i j) ∷ [])

  unfoldable pub vacant_refusal : ℕ → ℕ → ℕ → Option Refusal
  vacant_refusal n i j = refuse 14 0 ((ltb n 3 && ltb i max_size && occupied n i j) ∷ [])

  -- takes the entry at row i, column j out of matrix n
  unfoldable pub remove_entry_call : ℕ → ℕ → ℕ → Outcome (List ℕ)
  remove_entry_call n i j = judged (vacant_refusal n i j) (without_entry n i j)

  -- "a row's entries": the word with which they begin in the circuit's memory, and how many words they are; "a row past its domain is 7"
  unfoldable pub find_row_call : ℕ → ℕ → Outcome (ℕ × ℕ)
  find_row_call n i = judged (refuse 7 0 (has_row n i ∷ [])) (entries_place n + 3 * row_start n i, 3 * row_length n i)

  -- that part of the memory: empty where the row is refused
  unfoldable pub row_call : ℕ → ℕ → List ℕ
  row_call n i = elim (find_row_call n i) as (λ o. List ℕ) [ Done place ↦ take place.1 (drop place.0 w) | Refused r ↦ [] ]

-- a circuit without entries
abbrev pub empty_circuit : ℕ → ℕ → ℕ → Circuit
empty_circuit r c x = record { |R| = r; |C| = c; |X| = x; matrices = each (λ M. []) }

-- "begun empty"
unfoldable pub begin_call : ℕ → ℕ → ℕ → Outcome (List ℕ)
begin_call r c x = judged (size_refusal (size_tests r c x [])) (stored (empty_circuit r c x))

module _ (q : Prime) where
  -- "or from accepted lists"
  unfoldable pub begin_from_call : CircuitWords → Outcome (List ℕ)
  begin_from_call c = judged (first (circuit_refusals q (circuit_of c) (entry_list_tests c) [])) (stored (circuit_of c))

  module _ (w : List ℕ) where
    -- "Adding checks the count (refusal 5 past 1,024) and the entry as document 01 does, but for the order. All these have position 0"
    abbrev pub entry_rows : ℕ → Entry → List (Option Refusal)
    entry_rows n e =
        list_refusal ((ltb n 3 && ltb (get_or w (total_place n) 0) max_size) ∷ [])
        ∷ word_refusal q (e.value ∷ [])
        ∷ refuse 7 0 ((ltb e.row max_size && fits (grown_circuit w) e) ∷ [])
        ∷ []

    -- puts the entry into matrix n
    unfoldable pub add_refusal : ℕ → Entry → Option Refusal
    add_refusal n e = first (entry_rows n e ++ (occupied_refusal w n e.row e.column ∷ []))

    unfoldable pub add_entry_call : ℕ → Entry → Outcome (List ℕ)
    add_entry_call n e = judged (add_refusal n e) (with_entry w n e)

    -- the index polynomials of the circuit in memory into twelve lent slices
    unfoldable pub grown_index_call : Three (Index ℕ) → Outcome (Three (Index (List ℕ)))
    grown_index_call = index_call q (grown_lists w)
