-- A circuit's words as they are filled: words before zeros, the rows' counts entry by entry, and parts put one after the other up to
-- the whole of a matrix and of a circuit. Assumes nothing.
use Rattle.std.proofs.Common.{◌≡◌, refl, sym, ap, ap₂, ◌∙◌, List, [], ◌∷◌, ◌++◌, append_assoc, append-nil, ℕ, zero, suc, ◌+◌, ◌-◌, ◌*◌, ◌/◌, ◌%◌, ◌<◌, ◌≤◌, add-one, arith, eqb, length, get_or, take, drop, set, replicate, length-append, length-drop, drop_of_length-le, take-suc, take_all, length-take-le, take_at, drop_at}
use borrow.Rule.Slice.PartMut.{put_mid}
use lib.ListN.{replicate-append-replicate}
use lib.Seq.{sets-eq}
use Rattle.algebra.specs.Lists.{tabulate}
use Rattle.algebra.specs.Counting.{All}
use Rattle.algebra.proofs.Counting.{all_map}
use Rattle.algebra.proofs.ListLaws.{set-tabulate}
use Rattle.algebra.proofs.Keeping.{length-keep}
use Rattle.algebra.proofs.PolynomialLaws.{get_d_tabulate}
use Rattle.domain.specs.Size.{max_size}
use Rattle.protocol.specs.Circuit.{Entry}
use Rattle.protocol.specs.Calls.{entries_of, words_of_entries, circuit_of}
use Rattle.protocol.specs.Grown.{row_entries, stored_matrix, stored, matrix_words, grown_words, empty_circuit}
use Rattle.protocol.proofs.EntryWords.{entry-words_back, own_row, other_row}
use Rattle.circuit.specs.Given.{given, Within}
use Rattle.protocol.proofs.EntryLists.{length-entries_of}

-- zeros made by a rule
zero-counts : (n : ℕ) → tabulate n (λ j. 0) ≡ replicate {A = ℕ} n 0
zero-counts zero = refl
zero-counts (suc n) = ap (λ (l : List ℕ). 0 ∷ l) (zero-counts n)

-- n rows' counts after the first i entries
module _ (es : List Entry) (n : ℕ) where
  unfoldable pub counts_after : ℕ → List ℕ
  counts_after i = tabulate n (λ j. length (row_entries j (take i es)))

  pub counts-none : replicate n 0 ≡ counts_after 0
  unfolding counts_after
  counts-none = sym (zero-counts n)

  count_at : (i j : ℕ) → j < n → get_or (counts_after i) j 0 ≡ length (row_entries j (take i es))
  unfolding counts_after
  count_at i j below = get_d_tabulate n j (λ j. length (row_entries j (take i es))) 0 below

  pub count-within : (i j : ℕ) → i ≤ length es → j < n → get_or (counts_after i) j 0 ≤ i
  count-within i j passed below =
      omega (arith, count_at i j below, length-keep (λ (e : Entry). eqb e.row j) (take i es), length-take-le i es passed)

  pub counts_turn : (i : ℕ) (e : Entry) → i < length es → get_or es i e ≡ e → e.row < n
      → set (counts_after i) e.row (get_or (counts_after i) e.row 0 + 1) ≡ counts_after (i + 1)
  unfolding counts_after
  counts_turn i e within here row =
      set-tabulate n e.row (λ j. length (row_entries j (take i es))) (λ j. length (row_entries j (take (i + 1) es)))
      (get_or (counts_after i) e.row 0 + 1) row
      (ap (λ l. length (row_entries e.row l)) more ∙ own_row (take i es) [] e
      ∙ ap (λ l. suc (length (row_entries e.row l))) (append-nil (take i es)) ∙ omega (arith, count_at i e.row row))
      (λ j other. ap length (ap (row_entries j) more ∙ other_row (take i es) [] e j other ∙ ap (row_entries j) (append-nil (take i es))))
    where
      more : take (i + 1) es ≡ take i es ++ (e ∷ [])
      more = rw add-one (take-suc es i e within ∙ ap (λ d. take i es ++ (d ∷ [])) here)

  pub counts_end : (i : ℕ) → length es ≤ i → counts_after i ≡ tabulate n (λ j. length (row_entries j es))
  unfolding counts_after
  counts_end i past = ap (λ l. tabulate n (λ j. length (row_entries j l))) (take_all i es past)

-- zeros after zeros: of a matrix, and after three words of three matrices
zeros-joined : (n m k : ℕ) → 1 + n + m ≡ k → ◌≡◌ {A = List ℕ} (0 ∷ (tabulate n (λ j. 0) ++ replicate m 0)) (replicate k 0)
zeros-joined n m k room =
    let all : suc (n + m) ≡ k = omega arith in
    ap (λ (l : List ℕ). 0 ∷ l) (ap (λ (l : List ℕ). l ++ replicate m 0) (zero-counts n) ∙ replicate-append-replicate n m 0)
    ∙ ap (λ (k : ℕ). replicate k 0) all

empty_matrix : stored_matrix [] ≡ replicate matrix_words 0
unfolding stored_matrix words_of_entries
empty_matrix = zeros-joined max_size (3 * max_size) matrix_words refl

zeros_cut : (m n : ℕ) → n ≡ 3 + 3 * m → replicate {A = ℕ} (n - 3) 0 ≡ replicate m 0 ++ (replicate m 0 ++ replicate m 0)
zeros_cut m n room =
    let all : n - 3 ≡ m + (m + m) = omega arith in
    ap (λ (k : ℕ). replicate k 0) all
    ∙ sym (ap (λ (l : List ℕ). replicate m 0 ++ l) (replicate-append-replicate m m 0) ∙ replicate-append-replicate m (m + m) 0)

-- a part put right after what is in place
put-after : (front part rest w : List ℕ) (i m : ℕ) → w ≡ front ++ rest → length front ≡ i
    → put_mid i m w part ≡ (front ++ part) ++ drop m rest
put-after front part rest w i m cut place =
    ap (λ (w : List ℕ). put_mid i m w part) cut
    ∙ ap₂ (λ (l k : List ℕ). l ++ (part ++ drop m k)) (take_at front rest i place) (drop_at front rest i place)
    ∙ sym (append_assoc front part (drop m rest))

-- a matrix's words: the total, then n counts, then m words
pub matrix_filled : (out counts words : List ℕ) (t n m : ℕ) → length out ≡ 1 + n + m → length counts ≡ n
    → put_mid (1 + n) m (put_mid 1 n (set out 0 t) counts) words ≡ t ∷ (counts ++ words)
matrix_filled out counts words t n m room many =
    let total : List ℕ = t ∷ [] in
    let first : set out 0 t ≡ total ++ drop 1 out = sets-eq total out 0 (omega arith) in
    let over : drop m (drop n (drop 1 out)) ≡ [] =
    drop_of_length-le (drop n (drop 1 out)) {i = m} (simp length-drop (omega arith)) in
    put-after (total ++ counts) words (drop n (drop 1 out)) (put_mid 1 n (set out 0 t) counts) (1 + n) m
    (put-after total counts (drop 1 out) (set out 0 t) 1 n first refl) (omega arith)
    ∙ ap (λ (l : List ℕ). ((total ++ counts) ++ words) ++ l) over
    ∙ append-nil ((total ++ counts) ++ words)

-- filled from a list of whole entries, they are the words of its entries
pub matrix-stored : (l counts words : List ℕ) (n m : ℕ) → length l % 3 ≡ 0 → n ≡ max_size → m ≡ 3 * max_size
    → counts ≡ tabulate n (λ i. length (row_entries i (entries_of l))) → words ≡ l ++ replicate (m - length l) 0
    → length l / 3 ∷ (counts ++ words) ≡ stored_matrix (entries_of l)
unfolding stored_matrix
matrix-stored l counts words n m whole rows room counted copied =
    let es : List Entry = entries_of l in
    let total : length l / 3 ≡ length es = sym (length-entries_of l) in
    let left : m - length l ≡ 3 * max_size - 3 * length es = omega (arith, length-entries_of l) in
    ap₂ ◌∷◌ total
    (ap₂ ◌++◌ (counted ∙ ap (λ (n : ℕ). tabulate n (λ i. length (row_entries i es))) rows)
    (copied ∙ ap₂ (λ (w : List ℕ) (k : ℕ). w ++ replicate k 0) (sym (entry-words_back l whole)) left))

-- a circuit's words: the sizes, then the words of three matrices, m of each
pub circuit_filled : (w sizes ma mb mc : List ℕ) (m : ℕ) → length w ≡ 3 + 3 * m → length sizes ≡ 3 → length ma ≡ m → length mb ≡ m
    → put_mid (3 + 2 * m) m (put_mid (3 + m) m (put_mid 3 m (sizes ++ drop 3 w) ma) mb) mc ≡ sizes ++ (ma ++ (mb ++ mc))
circuit_filled w sizes ma mb mc m room three many-a many-b =
    let rest : List ℕ = drop 3 w in
    let sized : List ℕ = sizes ++ rest in
    let over : drop m (drop m (drop m rest)) ≡ [] = drop_of_length-le (drop m (drop m rest)) {i = m} (simp length-drop (omega arith)) in
    let with_a : put_mid 3 m sized ma ≡ (sizes ++ ma) ++ drop m rest = put-after sizes ma rest sized 3 m refl three in
    let with_b : put_mid (3 + m) m (put_mid 3 m sized ma) mb ≡ ((sizes ++ ma) ++ mb) ++ drop m (drop m rest) =
    put-after (sizes ++ ma) mb (drop m rest) (put_mid 3 m sized ma) (3 + m) m with_a (omega (arith, length-append sizes ma)) in
    put-after ((sizes ++ ma) ++ mb) mc (drop m (drop m rest)) (put_mid (3 + m) m (put_mid 3 m sized ma) mb) (3 + 2 * m) m with_b
    (omega (arith, length-append (sizes ++ ma) mb, length-append sizes ma))
    ∙ ap (λ (l : List ℕ). (((sizes ++ ma) ++ mb) ++ mc) ++ l) over
    ∙ append-nil (((sizes ++ ma) ++ mb) ++ mc)
    ∙ append_assoc (sizes ++ ma) mb mc
    ∙ append_assoc sizes ma (mb ++ mc)

module _ (r c x : ℕ) where
  pub circuit-stored : (ea eb ec : List ℕ) {sizes ma mb mc : List ℕ} → sizes ≡ r ∷ c ∷ x ∷ [] → ma ≡ stored_matrix (entries_of ea)
      → mb ≡ stored_matrix (entries_of eb) → mc ≡ stored_matrix (entries_of ec)
      → sizes ++ (ma ++ (mb ++ mc)) ≡ stored (circuit_of (given r c x ea eb ec))
  unfolding stored circuit_of
  circuit-stored ea eb ec first in_a in_b in_c = ap₂ ◌++◌ first (ap₂ ◌++◌ in_a (ap₂ ◌++◌ in_b in_c))

  -- the sizes before zeros are the words of a circuit without entries
  pub nothing_stored : (n : ℕ) → n ≡ grown_words → r ∷ c ∷ x ∷ replicate (n - 3) 0 ≡ stored (empty_circuit r c x)
  unfolding stored
  nothing_stored n room =
      ap (λ (l : List ℕ). r ∷ c ∷ x ∷ l) (zeros_cut matrix_words n room ∙ sym (ap (λ (l : List ℕ). l ++ (l ++ l)) empty_matrix))

-- rows within a matrix are below 1,024
pub rows-below : (r c : ℕ) (es : List Entry) → r ≤ max_size → All (Within r c) es → All (λ (e : Entry). e.row < max_size) es
rows-below r c es few = all_map (λ e h. omega (arith, h.row_below)) es
