-- What it means that nothing is refused: every row, and every test of a row, passes, and the call has its result. And what a refusal says
-- of the rows before it: they pass. Assumes nothing.
use mathlib.Core.Path.{◌≡◌, refl, ap₂}
use mathlib.Core.Logic.{◌≢◌}
use mathlib.Core.Bool.{Bool, true, false, ◌&&◌}
use mathlib.Core.List.{List, [], ◌∷◌, ◌++◌, map, tail}
use mathlib.Core.Option.{Option, none, some}
use Prim.Native.Nat.{ℕ, suc, ◌<◌, ◌≤◌}
use lib.Dec.{leb, ltb}
use native.Mathlib.Omega.{arith}
use borrow.Author.Tests.{ltb-true, lt-ltb, leb-true, le-leb}
use Rattle.algebra.specs.Counting.{All}
use Rattle.field.specs.Prime.{Prime}
use Rattle.protocol.specs.Circuit.{Circuit}
use Rattle.protocol.specs.Refusals.{Refusal, Done, Refused, judged, first, refuse, pairs, begins_with_one, size_tests, entry_tests}
use Rattle.protocol.specs.Refusals.{size_refusal, list_refusal, word_refusal, entry_refusal, constant_refusal, length_refusal}
use Rattle.protocol.specs.Admission.{entry_values, circuit_refusals}
use Rattle.protocol.specs.Session.{all}

some-not-none : {T : Type 0} {x : T} → some x ≡ none → ⊥
some-not-none e = let z : ◌≡◌ {A = ℕ} 0 1 = cc in omega arith

pub first-none : (l : List (Option Refusal)) → first l ≡ none → All (λ o. o ≡ none) l
first-none [] e = tt
first-none (none ∷ l) e = (refl, first-none l e)
first-none (some r ∷ l) e = absurd (some-not-none e)

pub none_first : (l : List (Option Refusal)) → All (λ o. o ≡ none) l → first l ≡ none
none_first [] h = refl
none_first (none ∷ l) h = none_first l h.1
none_first (some r ∷ l) h = absurd (some-not-none h.0)

pub refuse-none : (number n : ℕ) (tests : List Bool) → refuse number n tests ≡ none → All (λ t. t ≡ true) tests
refuse-none number n [] e = tt
refuse-none number n (true ∷ l) e = (refl, refuse-none number (suc n) l e)
refuse-none number n (false ∷ l) e = absurd (some-not-none e)

pub none-refuse : (number n : ℕ) (tests : List Bool) → All (λ t. t ≡ true) tests → refuse number n tests ≡ none
none-refuse number n [] h = refl
none-refuse number n (true ∷ l) h = none-refuse number (suc n) l h.1
none-refuse number n (false ∷ l) h = let z : ◌≡◌ {A = ℕ} 0 1 = cc in absurd (omega arith)

-- both of two tests pass
pub and-true : (a b : Bool) → (a && b) ≡ true → (a ≡ true) × (b ≡ true)
and-true true b e = (refl, e)
and-true false b e = let z : ◌≡◌ {A = ℕ} 0 1 = cc in absurd (omega arith)

-- all tests of a list pass
pub all_true : (tests : List Bool) → All (λ t. t ≡ true) tests → all tests ≡ true
all_true [] h = refl
all_true (t ∷ l) h = ap₂ ◌&&◌ h.0 (all_true l h.1)

pub true-all : (tests : List Bool) → all tests ≡ true → All (λ t. t ≡ true) tests
true-all [] e = tt
true-all (t ∷ l) e = let (head, rest) = and-true t (all l) e in (head, true-all l rest)

-- 6: no word is p or more
pub words-below : (q : Prime) (ws : List ℕ) → All (λ t. t ≡ true) (map (λ w. ltb w q.p) ws) → All (λ w. w < q.p) ws
words-below q [] h = tt
words-below q (w ∷ ws) h = (ltb-true w q.p h.0, words-below q ws h.1)

pub below-words : (q : Prime) (ws : List ℕ) → All (λ w. w < q.p) ws → All (λ t. t ≡ true) (map (λ w. ltb w q.p) ws)
below-words q [] h = tt
below-words q (w ∷ ws) h = (lt-ltb w q.p h.0, below-words q ws h.1)

pub word_refusal-none : (q : Prime) (ws : List ℕ) → word_refusal q ws ≡ none → All (λ w. w < q.p) ws
unfolding word_refusal
word_refusal-none q ws e = words-below q ws (refuse-none 6 0 (map (λ w. ltb w q.p) ws) e)

pub none-word_refusal : (q : Prime) (ws : List ℕ) → All (λ w. w < q.p) ws → word_refusal q ws ≡ none
unfolding word_refusal
none-word_refusal q ws h = none-refuse 6 0 (map (λ w. ltb w q.p) ws) (below-words q ws h)

-- 13: the first word is 1
pub constant_refusal-none : (ws : List ℕ) → constant_refusal ws ≡ none → begins_with_one ws ≡ true
unfolding constant_refusal
constant_refusal-none ws e = (refuse-none 13 0 (begins_with_one ws ∷ []) e).0

pub none-constant_refusal : (ws : List ℕ) → begins_with_one ws ≡ true → constant_refusal ws ≡ none
unfolding constant_refusal
none-constant_refusal ws begins = none-refuse 13 0 (begins_with_one ws ∷ []) (begins, tt)

-- 11: no declared length is above the table's
abbrev pub Within : List ℕ → List ℕ → Type 0
Within [] k = Unit {0}
Within (m ∷ l) [] = Unit {0}
Within (m ∷ l) (n ∷ k) = (m ≤ n) × Within l k

within-pairs : (declared table : List ℕ) → Within declared table → All (λ t. t ≡ true) (pairs leb declared table)
within-pairs [] k h = tt
within-pairs (m ∷ l) [] h = tt
within-pairs (m ∷ l) (n ∷ k) h = (le-leb m n h.0, within-pairs l k h.1)

pairs-within : (declared table : List ℕ) → All (λ t. t ≡ true) (pairs leb declared table) → Within declared table
pairs-within [] k h = tt
pairs-within (m ∷ l) [] h = tt
pairs-within (m ∷ l) (n ∷ k) h = (leb-true m n h.0, pairs-within l k h.1)

pub length_refusal-none : (declared table : List ℕ) → length_refusal declared table ≡ none → Within declared table
unfolding length_refusal
length_refusal-none declared table e = pairs-within declared table (refuse-none 11 0 (pairs leb declared table) e)

pub none-length_refusal : (declared table : List ℕ) → Within declared table → length_refusal declared table ≡ none
unfolding length_refusal
none-length_refusal declared table h = none-refuse 11 0 (pairs leb declared table) (within-pairs declared table h)

-- a call that is done was not refused, and has its result
pub judged-done : {T : Type 0} (o : Option Refusal) (w : T) {v : T} → judged o w ≡ Done v → (o ≡ none) × (w ≡ v)
judged-done none w {v} e = (refl, cc)
judged-done (some r) w {v} e = let z : ◌≡◌ {A = ℕ} 0 1 = cc in absurd (omega arith)

-- a call that is refused has that refusal
pub judged-refused : {T : Type 0} (o : Option Refusal) (w : T) {f : Refusal} → judged o w ≡ Refused f → o ≡ some f
judged-refused none w {f} e = let z : ◌≡◌ {A = ℕ} 0 1 = cc in absurd (omega arith)
judged-refused (some r) w {f} e = cc

-- where the first refusal has another number than a row, that row passes, and the refusal is the first of the rows after it
pub past :
    (number n : ℕ) (tests : List Bool) (rows : List (Option Refusal)) (f : Refusal) → first (refuse number n tests ∷ rows) ≡ some f
    → f.number ≢ number → All (λ t. t ≡ true) tests × (first rows ≡ some f)
past number n [] rows f e other = (tt, e)
past number n (true ∷ tests) rows f e other = let (passes, rest) = past number (suc n) tests rows f e other in ((refl, passes), rest)
past number n (false ∷ tests) rows f e other = absurd (other cc)

-- the same for 4 to 7, the rows of a circuit
pub past_circuit :
    (q : Prime) (c : Circuit) (lists : List Bool) (ws : List ℕ) (rows : List (Option Refusal)) (f : Refusal)
    → first (circuit_refusals q c lists ws ++ rows) ≡ some f → 7 < f.number
    → (first (circuit_refusals q c lists ws) ≡ none) × (first rows ≡ some f)
unfolding circuit_refusals size_refusal list_refusal word_refusal entry_refusal
past_circuit q c lists ws rows f refusal later =
    let sizes : List Bool = size_tests c.|R| c.|C| c.|X| [] in
    let words : List Bool = map (λ w. ltb w q.p) (entry_values c ++ ws) in
    let entries : List Bool = entry_tests c c.matrices.a ++ (entry_tests c c.matrices.b ++ entry_tests c c.matrices.c) in
    let table : List (Option Refusal) = circuit_refusals q c lists ws ++ rows in
    let (size, from5) = past 4 0 sizes (tail table) f refusal (λ e. omega arith) in
    let (list, from6) = past 5 0 lists (tail (tail table)) f from5 (λ e. omega arith) in
    let (word, from7) = past 6 0 words (tail (tail (tail table))) f from6 (λ e. omega arith) in
    let (entry, rest) = past 7 0 entries rows f from7 (λ e. omega arith) in
    let free : first (circuit_refusals q c lists ws) ≡ none =
    none_first (circuit_refusals q c lists ws)
    (none-refuse 4 0 sizes size, (none-refuse 5 0 lists list, (none-refuse 6 0 words word, (none-refuse 7 0 entries entry, tt)))) in
    (free, rest)
