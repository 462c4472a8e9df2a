-- A circuit as it stands in memory: the words of one matrix among those of the others, what is read there, and the words after an entry is
-- put in or taken out. Assumes nothing.
use mathlib.Core.Path.{◌≡◌, refl, sym, ap, ap₂, ◌∙◌}
use mathlib.Core.Logic.{◌≢◌}
use mathlib.Core.List.{List, [], ◌∷◌, ◌++◌, append_assoc, append-nil}
use Prim.Native.Nat.{ℕ, zero, suc, ◌+◌, ◌-◌, ◌*◌, ◌<◌, ◌≤◌, min}
use native.Mathlib.Omega.{arith}
use native.Mathlib.Nat.{min-eq_left}
use lib.Dec.{ltb}
use lib.ListN.{length, get_or, take, drop, set, length-append, get_or-append}
use lib.Seq.{take_at, drop_at, get_or_at, set_at, get_or-append-add, set-append_left}
use Rattle.algebra.specs.Lists.{keep}
use Rattle.algebra.proofs.ListLaws.{set_append_add, set-tabulate}
use Rattle.algebra.proofs.Keeping.{length-keep}
use Rattle.algebra.proofs.PolynomialLaws.{get_d_tabulate}
use Rattle.domain.specs.Size.{max_size}
use Rattle.protocol.specs.Three.{MatrixName, A, B, C, at}
use Rattle.protocol.specs.Circuit.{Entry, Circuit}
use Rattle.protocol.specs.Calls.{words_of_entries, circuit_of}
use Rattle.protocol.specs.Grown.{row_entries, stored_matrix, stored, total_place, counts_place, entries_place, inserted, removed, total, row_start, column_at, entry_words_in, grown_lists, grown_circuit}
use Rattle.protocol.specs.Growing.{number, changed, handed_over}
use Rattle.protocol.proofs.EntryWords.{length-words, words_append, circuit_back, column-word, counts, zeros, length-counts, matrix_then, length-stored-matrix, inserted-between, removed-between, one_more, own_row, other_row, three-zeros}

-- the words before a matrix and after it, whatever stands in it
unfoldable pub head : Circuit → MatrixName → List ℕ
head k A = k.|R| ∷ k.|C| ∷ k.|X| ∷ []
head k B = k.|R| ∷ k.|C| ∷ k.|X| ∷ stored_matrix k.matrices.a
head k C = k.|R| ∷ k.|C| ∷ k.|X| ∷ (stored_matrix k.matrices.a ++ stored_matrix k.matrices.b)

unfoldable pub tail : Circuit → MatrixName → List ℕ
tail k A = stored_matrix k.matrices.b ++ stored_matrix k.matrices.c
tail k B = stored_matrix k.matrices.c
tail k C = []

pub stored_around : (k : Circuit) (M : MatrixName) (es : List Entry) → stored (changed k M es) ≡ head k M ++ (stored_matrix es ++ tail k M)
unfolding stored head tail
stored_around k A es = refl
stored_around k B es = refl
stored_around k C es = simp (append_assoc, append-nil)

pub changed_same : (k : Circuit) (M : MatrixName) → changed k M (at k.matrices M) ≡ k
changed_same k A = refl
changed_same k B = refl
changed_same k C = refl

stored-parts :
    (k : Circuit) (M : MatrixName) (es : List Entry)
    → stored (changed k M es) ≡ head k M ++ (length es ∷ (counts es ++ (words_of_entries es ++ (zeros es ++ tail k M))))
stored-parts k M es = stored_around k M es ∙ ap (λ (r : List ℕ). head k M ++ r) (matrix_then es (tail k M))

module _ (k : Circuit) (few : (M : MatrixName) → length (at k.matrices M) ≤ max_size) where
  pub head_length : (M : MatrixName) → length (head k M) ≡ total_place (number M)
  unfolding head
  head_length A = refl
  head_length B = omega (arith, length-stored-matrix k.matrices.a (few A))
  head_length C =
      omega (
        arith,
        length-append (stored_matrix k.matrices.a) (stored_matrix k.matrices.b),
        length-stored-matrix k.matrices.a (few A),
        length-stored-matrix k.matrices.b (few B),
      )

  module _ (M : MatrixName) where
    -- the matrix's entries and its number
    abbrev es : List Entry
    es = at k.matrices M

    abbrev n : ℕ
    n = number M

    -- memory as it is cut around the matrix
    here : stored k ≡ head k M ++ (length es ∷ (counts es ++ (words_of_entries es ++ (zeros es ++ tail k M))))
    here = ap stored (sym (changed_same k M)) ∙ stored-parts k M es

    -- the words up to the end of the first entries, and memory cut there
    unfoldable before : List Entry → List ℕ
    before front = head k M ++ (length es ∷ (counts es ++ words_of_entries front))

    length_before : (front : List Entry) → length (before front) ≡ entries_place n + 3 * length front
    unfolding before
    length_before front = simp (length-append, length-words, length-counts, head_length) (omega arith)

    before_then :
        (front rest : List Entry) (after : List ℕ)
        → before front ++ (words_of_entries rest ++ after) ≡ head k M ++ (length es ∷ (counts es ++ (words_of_entries (front ++ rest) ++ after)))
    unfolding before
    before_then front rest after = rw (words_append front rest) (simp append_assoc)

    cut_after : (front rest : List Entry) → es ≡ front ++ rest → stored k ≡ before front ++ (words_of_entries rest ++ (zeros es ++ tail k M))
    cut_after front rest cut =
        here
        ∙ ap (λ (l : List Entry). head k M ++ (length es ∷ (counts es ++ (words_of_entries l ++ (zeros es ++ tail k M))))) cut
        ∙ sym (before_then front rest (zeros es ++ tail k M))

    -- the total and the counts
    pub total-stored-word : get_or (stored k) (total_place n) 0 ≡ length es
    total-stored-word = ap (λ (w : List ℕ). get_or w (total_place n) 0) here ∙ get_or_at (head k M) (length es) _ 0 (total_place n) (head_length M)

    pub total-stored : total (stored k) n ≡ length es
    unfolding total
    total-stored = ap (λ (m : ℕ). min m max_size) total-stored-word ∙ min-eq_left (few M)

    pub count-stored : (i : ℕ) → i < max_size → get_or (stored k) (counts_place n + i) 0 ≡ length (row_entries i es)
    unfolding counts
    count-stored i small =
        let place : counts_place n + i ≡ length (head k M) + suc i = omega (arith, head_length M) in
        let rest : List ℕ = words_of_entries es ++ (zeros es ++ tail k M) in
        ap₂ (λ (w : List ℕ) (p : ℕ). get_or w p 0) here place
        ∙ get_or-append-add (head k M) (length es ∷ (counts es ++ rest)) (suc i) 0
        ∙ get_or-append (counts es) rest 0 i (omega (arith, length-counts es))
        ∙ get_d_tabulate max_size i (λ i. length (row_entries i es)) 0 small

    -- each row begins after the entries of the rows before it
    pub row_starts :
        length (keep (λ (d : Entry). ltb d.row 0) es) ≡ 0
        → ((i : ℕ) → length (keep (λ (d : Entry). ltb d.row (suc i)) es)
        ≡ length (keep (λ (d : Entry). ltb d.row i) es) + length (row_entries i es))
        → (i : ℕ) → i ≤ max_size → row_start (stored k) n i ≡ length (keep (λ (d : Entry). ltb d.row i) es)
    unfolding row_start
    row_starts none next zero small = sym none
    row_starts none next (suc i) small =
        ap₂ min (ap₂ ◌+◌ (row_starts none next i (omega arith)) (count-stored i small) ∙ sym (next i)) total-stored
        ∙ min-eq_left (length-keep (λ (d : Entry). ltb d.row (suc i)) es)

    -- the entries
    pub column-stored : (j : ℕ) (z : Entry) → j < length es → column_at (stored k) n j ≡ (get_or es j z).column
    column-stored j z inside =
        let place : entries_place n + 3 * j + 1 ≡ length (before []) + (3 * j + 1) = omega (arith, length_before []) in
        let rest : List ℕ = zeros es ++ tail k M in
        ap₂ (λ (w : List ℕ) (p : ℕ). get_or w p 0) (cut_after [] es refl) place
        ∙ get_or-append-add (before []) (words_of_entries es ++ rest) (3 * j + 1) 0
        ∙ get_or-append (words_of_entries es) rest 0 (3 * j + 1) (omega (arith, length-words es))
        ∙ column-word es j z inside

    pub part-stored :
        (front part back : List Entry) → es ≡ front ++ (part ++ back)
        → take (3 * length part) (drop (entries_place n + 3 * length front) (stored k)) ≡ words_of_entries part
    part-stored front part back cut =
        let rest : List ℕ = words_of_entries back ++ (zeros es ++ tail k M) in
        ap (take (3 * length part))
        (ap (drop (entries_place n + 3 * length front)) (cut_after front (part ++ back) cut)
        ∙ drop_at (before front) _ (entries_place n + 3 * length front) (length_before front)
        ∙ ap (λ (words : List ℕ). words ++ (zeros es ++ tail k M)) (words_append part back)
        ∙ append_assoc (words_of_entries part) (words_of_entries back) (zeros es ++ tail k M))
        ∙ take_at (words_of_entries part) rest (3 * length part) (length-words part)

    pub entries-stored : entry_words_in (stored k) n ≡ words_of_entries es
    unfolding entry_words_in
    entries-stored =
        let place : entries_place n ≡ entries_place n + 3 * 0 = omega arith in
        ap₂ (λ (m p : ℕ). take (3 * m) (drop p (stored k))) total-stored place ∙ part-stored [] es [] (sym (append-nil es))

    -- memory with other words of entries, once the total and the count of the one row where they differ are put in
    recounted :
        (w : List ℕ) (new : List Entry) (i m v : ℕ)
        → w ≡ head k M ++ (length es ∷ (counts es ++ (words_of_entries new ++ (zeros new ++ tail k M)))) → i < max_size → length new ≡ m
        → length (row_entries i new) ≡ v → ((r : ℕ) → r ≢ i → length (row_entries r new) ≡ length (row_entries r es))
        → set (set w (total_place n) m) (counts_place n + i) v ≡ stored (changed k M new)
    unfolding counts
    recounted w new i m v moved small many counted others =
        let rest : List ℕ = words_of_entries new ++ (zeros new ++ tail k M) in
        let place : counts_place n + i ≡ length (head k M) + suc i = omega (arith, head_length M) in
        let totalled : set w (total_place n) m ≡ head k M ++ (m ∷ (counts es ++ rest)) =
        ap (λ (w : List ℕ). set w (total_place n) m) moved
        ∙ set_at (head k M) (length es) (counts es ++ rest) m (total_place n) (head_length M) in
        ap₂ (λ (w : List ℕ) (p : ℕ). set w p v) totalled place
        ∙ set_append_add (head k M) (m ∷ (counts es ++ rest)) (suc i) v
        ∙ ap (λ (r : List ℕ). head k M ++ (m ∷ r))
        (set-append_left (counts es) rest i v (omega (arith, length-counts es))
        ∙ ap (λ (c : List ℕ). c ++ rest)
        (set-tabulate max_size i (λ r. length (row_entries r es)) (λ r. length (row_entries r new)) v small counted others))
        ∙ ap (λ (m : ℕ). head k M ++ (m ∷ (counts new ++ rest))) (sym many)
        ∙ sym (stored-parts k M new)

    -- an entry put in, and one taken out
    pub insertion_stored :
        (front back : List Entry) (e : Entry) → es ≡ front ++ back → length es < max_size → e.row < max_size
        → set
        (set (inserted (stored k) (entries_place n + 3 * length front) (entries_place n + 3 * length es) e) (total_place n) (length es + 1))
        (counts_place n + e.row) (length (row_entries e.row es) + 1)
        ≡ stored (changed k M (front ++ (e ∷ back)))
    unfolding words_of_entries
    insertion_stored front back e cut room small =
        let new : List Entry = front ++ (e ∷ back) in
        let from : ℕ = entries_place n + 3 * length front in
        let to : ℕ = entries_place n + 3 * length es in
        let longer : length new ≡ suc (length es) = one_more front back e ∙ ap (λ (l : List Entry). suc (length l)) (sym cut) in
        let ends : from + length (words_of_entries back) ≡ to = omega (arith, length-words back, length-append front back, ap length cut) in
        recounted (inserted (stored k) from to e) new e.row (length es + 1) (length (row_entries e.row es) + 1)
        (ap (λ (w : List ℕ). inserted w from to e)
        (cut_after front back cut
        ∙ ap (λ (z : List ℕ). before front ++ (words_of_entries back ++ (z ++ tail k M))) (three-zeros es new longer (omega arith)))
        ∙ inserted-between (before front) (words_of_entries back) (zeros new ++ tail k M) 0 0 0 from to e (length_before front) ends
        ∙ before_then front (e ∷ back) (zeros new ++ tail k M))
        small (omega arith)
        (omega (arith, own_row front back e, ap (λ (l : List Entry). length (row_entries e.row l)) cut))
        (λ r other. ap length (other_row front back e r other ∙ ap (row_entries r) (sym cut)))

    pub removal-stored :
        (front back : List Entry) (e : Entry) → es ≡ front ++ (e ∷ back) → e.row < max_size
        → set
        (set (removed (stored k) (entries_place n + 3 * length front) (entries_place n + 3 * length es)) (total_place n) (length es - 1))
        (counts_place n + e.row) (length (row_entries e.row es) - 1)
        ≡ stored (changed k M (front ++ back))
    unfolding words_of_entries
    removal-stored front back e cut small =
        let new : List Entry = front ++ back in
        let from : ℕ = entries_place n + 3 * length front in
        let to : ℕ = entries_place n + 3 * length es in
        let shorter : length es ≡ suc (length new) = ap length cut ∙ one_more front back e in
        let ends : from + 3 + length (words_of_entries back) ≡ to = omega (arith, length-words back, length-append front back) in
        recounted (removed (stored k) from to) new e.row (length es - 1) (length (row_entries e.row es) - 1)
        (ap (λ (w : List ℕ). removed w from to) (cut_after front (e ∷ back) cut)
        ∙ removed-between (before front) (words_of_entries back) (zeros es ++ tail k M) e.row e.column e.value from to
        (length_before front) ends
        ∙ ap (λ (z : List ℕ). before front ++ (words_of_entries back ++ (z ++ tail k M))) (sym (three-zeros new es shorter (few M)))
        ∙ before_then front back (zeros new ++ tail k M))
        small (omega arith)
        (omega (arith, own_row front back e, ap (λ (l : List Entry). length (row_entries e.row l)) cut))
        (λ r other. ap length (sym (other_row front back e r other) ∙ ap (row_entries r) (sym cut)))

  -- all of the circuit
  pub lists-stored : grown_lists (stored k) ≡ handed_over k
  unfolding grown_lists stored
  lists-stored = λ i.
      record {
        |R| = k.|R|;
        |C| = k.|C|;
        |X| = k.|X|;
        matrices = record { a = entries-stored A i; b = entries-stored B i; c = entries-stored C i };
      }

  pub circuit-stored : grown_circuit (stored k) ≡ k
  circuit-stored = ap circuit_of lists-stored ∙ circuit_back k
