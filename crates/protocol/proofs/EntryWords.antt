-- The words of entries and of one matrix, as they stand in memory, and what an entry more or less makes of them. Assumes nothing.
use mathlib.Core.Path.{◌≡◌, refl, sym, ap, ◌∙◌}
use mathlib.Core.Logic.{◌≢◌}
use mathlib.Core.List.{List, [], ◌∷◌, ◌++◌, append_assoc}
use Prim.Native.Nat.{ℕ, zero, suc, ◌+◌, ◌-◌, ◌*◌, ◌%◌, ◌<◌, ◌≤◌}
use native.Mathlib.Omega.{arith}
use lib.Dec.{eqb}
use lib.ListN.{length, get_or, drop, replicate, length-append, length-replicate}
use lib.Seq.{slice, take_at, drop_at}
use borrow.Author.Tests.{eq-eqb, ne_eqb}
use Rattle.algebra.specs.Lists.{tabulate}
use Rattle.algebra.proofs.ListLaws.{slice_at}
use Rattle.algebra.proofs.Keeping.{keep_without, length-keep_with}
use Rattle.algebra.proofs.PolynomialLaws.{length-tabulate}
use Rattle.domain.specs.Size.{max_size}
use Rattle.protocol.specs.Circuit.{Entry, Circuit}
use Rattle.protocol.specs.Calls.{entries_of, words_of_entries, circuit_of}
use Rattle.protocol.specs.Grown.{row_entries, stored_matrix, matrix_words, inserted, removed}
use Rattle.protocol.specs.Growing.{handed_over}

-- the words of entries
pub length-words : (es : List Entry) → length (words_of_entries es) ≡ 3 * length es
unfolding words_of_entries
length-words [] = refl
length-words (e ∷ es) = omega (arith, length-words es)

pub words_append : (l k : List Entry) → words_of_entries (l ++ k) ≡ words_of_entries l ++ words_of_entries k
unfolding words_of_entries
words_append [] k = refl
words_append (e ∷ l) k = ap (λ r. e.row ∷ e.column ∷ e.value ∷ r) (words_append l k)

pub entries_back : (es : List Entry) → entries_of (words_of_entries es) ≡ es
unfolding words_of_entries entries_of
entries_back [] = refl
entries_back (e ∷ es) = ap (λ r. e ∷ r) (entries_back es)

pub circuit_back : (k : Circuit) → circuit_of (handed_over k) ≡ k
unfolding circuit_of
circuit_back k = simp entries_back

-- and in a list of whole entries the words of its entries are all there is
pub entry-words_back : (l : List ℕ) → length l % 3 ≡ 0 → words_of_entries (entries_of l) ≡ l
unfolding words_of_entries entries_of
entry-words_back [] whole = refl
entry-words_back (i ∷ []) whole = absurd (omega arith)
entry-words_back (i ∷ (k ∷ [])) whole = absurd (omega arith)
entry-words_back (i ∷ (k ∷ (v ∷ l))) whole = ap (λ (r : List ℕ). i ∷ k ∷ v ∷ r) (entry-words_back l (omega arith))

pub column-word : (es : List Entry) (k : ℕ) (z : Entry) → k < length es → get_or (words_of_entries es) (3 * k + 1) 0 ≡ (get_or es k z).column
unfolding words_of_entries
column-word [] k z l = absurd (omega arith)
column-word (e ∷ es) zero z l = refl
column-word (e ∷ es) (suc k) z l =
    let place : 3 * suc k + 1 ≡ suc (suc (suc (3 * k + 1))) = omega arith in
    ap (λ n. get_or (words_of_entries (e ∷ es)) n 0) place ∙ column-word es k z (omega arith)

-- the counts of a matrix, and the zeros after its entries
unfoldable pub counts : List Entry → List ℕ
counts es = tabulate max_size (λ i. length (row_entries i es))

unfoldable pub zeros : List Entry → List ℕ
zeros es = replicate (3 * max_size - 3 * length es) 0

pub length-counts : (es : List Entry) → length (counts es) ≡ max_size
unfolding counts
length-counts es = length-tabulate max_size (λ i. length (row_entries i es))

-- a matrix, with what stands after it
matrix-parts : (es : List Entry) → stored_matrix es ≡ length es ∷ (counts es ++ (words_of_entries es ++ zeros es))
unfolding stored_matrix counts zeros
matrix-parts es = refl

pub matrix_then :
    (es : List Entry) (after : List ℕ)
    → stored_matrix es ++ after ≡ length es ∷ (counts es ++ (words_of_entries es ++ (zeros es ++ after)))
matrix_then es after = rw (matrix-parts es) (simp append_assoc)

pub length-stored-matrix : (es : List Entry) → length es ≤ max_size → length (stored_matrix es) ≡ matrix_words
unfolding zeros
length-stored-matrix es few =
    rw (matrix-parts es) (simp (length-append, length-counts, length-words, length-replicate) (omega arith))

-- an entry put in or taken out between other words
pub inserted-between :
    (p m r : List ℕ) (x y z from to : ℕ) (e : Entry) → length p ≡ from → from + length m ≡ to
    → inserted (p ++ (m ++ (x ∷ y ∷ z ∷ r))) from to e ≡ p ++ (e.row ∷ e.column ∷ e.value ∷ (m ++ r))
unfolding inserted
inserted-between p m r x y z from to e start end =
    let entry : List ℕ = x ∷ y ∷ z ∷ [] in
    let rest : drop (to + 3) (p ++ (m ++ (entry ++ r))) ≡ r =
    ap (drop (to + 3)) (simp append_assoc)
    ∙ drop_at (p ++ (m ++ entry)) r (to + 3) (simp length-append (omega arith)) in
    cc (take_at p (m ++ (entry ++ r)) from start, slice_at p m (entry ++ r) from to start end, rest)

pub removed-between :
    (p m r : List ℕ) (x y z from to : ℕ) → length p ≡ from → from + 3 + length m ≡ to
    → removed (p ++ (x ∷ y ∷ z ∷ (m ++ r))) from to ≡ p ++ (m ++ (0 ∷ 0 ∷ 0 ∷ r))
unfolding removed
removed-between p m r x y z from to start end =
    let entry : List ℕ = x ∷ y ∷ z ∷ [] in
    let middle : slice (from + 3) to (p ++ (entry ++ (m ++ r))) ≡ m =
    ap (slice (from + 3) to) (sym (append_assoc p entry (m ++ r)))
    ∙ slice_at (p ++ entry) m r (from + 3) to (simp length-append (omega arith)) end in
    let rest : drop to (p ++ (entry ++ (m ++ r))) ≡ r =
    ap (drop to) (simp append_assoc) ∙ drop_at (p ++ (entry ++ m)) r to (simp length-append (omega arith)) in
    cc (take_at p (entry ++ (m ++ r)) from start, middle, rest)

-- an entry more makes one more in all and in its own row, and takes the room of three zeros
pub one_more : (front back : List Entry) (e : Entry) → length (front ++ (e ∷ back)) ≡ suc (length (front ++ back))
one_more front back e = omega (arith, length-append front (e ∷ back), length-append front back)

pub own_row :
    (front back : List Entry) (e : Entry)
    → length (row_entries e.row (front ++ (e ∷ back))) ≡ suc (length (row_entries e.row (front ++ back)))
own_row front back e = length-keep_with (λ (d : Entry). eqb d.row e.row) front back (eq-eqb e.row e.row refl)

pub other_row : (front back : List Entry) (e : Entry) (r : ℕ) → r ≢ e.row → row_entries r (front ++ (e ∷ back)) ≡ row_entries r (front ++ back)
other_row front back e r other = keep_without (λ (d : Entry). eqb d.row r) front back (ne_eqb e.row r (λ same. other (sym same)))

pub three-zeros : (short long : List Entry) → length long ≡ suc (length short) → length long ≤ max_size → zeros short ≡ 0 ∷ 0 ∷ 0 ∷ zeros long
unfolding zeros
three-zeros short long longer few =
    let rest : 3 * max_size - 3 * length short ≡ suc (suc (suc (3 * max_size - 3 * length long))) = omega arith in
    ap (λ (m : ℕ). replicate m 0) rest
