-- Lent slices as they are filled: three words after others, what is left after words, and all four of a call. Assumes nothing.
use mathlib.Core.Path.{◌≡◌, sym, ap, ap₂, ◌∙◌}
use mathlib.Core.List.{List, [], ◌∷◌, ◌++◌, append-nil}
use Prim.Native.Nat.{ℕ, ◌+◌, ◌-◌, ◌%◌}
use native.Mathlib.Omega.{arith}
use lib.ListN.{length, drop, set, drop_of_length-le}
use Rattle.algebra.proofs.ListLaws.{set_append_add}
use Rattle.protocol.specs.Three.{Three}
use Rattle.protocol.specs.Calls.{CircuitWords, entries_of, words_of_entries, circuit_of}
use Rattle.protocol.specs.Blinded.{reserved_columns, blinded_circuit, blinded_assignment, blinded_words}
use Rattle.protocol.proofs.EntryWords.{words_append, entry-words_back}

-- three words stored after l, over three that stood there
pub three-after : (l d : List ℕ) (x y z : ℕ) → length d ≡ 3
    → set (set (set (l ++ d) (length l) x) (length l + 1) y) (length l + 2) z ≡ l ++ (x ∷ y ∷ z ∷ [])
three-after l [] x y z three = absurd (omega arith)
three-after l (a ∷ []) x y z three = absurd (omega arith)
three-after l (a ∷ (b ∷ [])) x y z three = absurd (omega arith)
three-after l (a ∷ (b ∷ (c ∷ (d ∷ r)))) x y z three = absurd (omega arith)
three-after l (a ∷ (b ∷ (c ∷ []))) x y z three =
    let n : ℕ = length l in
    let place : n ≡ n + 0 = omega arith in
    let first : set (l ++ (a ∷ b ∷ c ∷ [])) n x ≡ l ++ (x ∷ b ∷ c ∷ []) =
    ap (λ (i : ℕ). set (l ++ (a ∷ b ∷ c ∷ [])) i x) place ∙ set_append_add l (a ∷ b ∷ c ∷ []) 0 x in
    let second : set (set (l ++ (a ∷ b ∷ c ∷ [])) n x) (n + 1) y ≡ l ++ (x ∷ y ∷ c ∷ []) =
    ap (λ (r : List ℕ). set r (n + 1) y) first ∙ set_append_add l (x ∷ b ∷ c ∷ []) 1 y in
    ap (λ (r : List ℕ). set r (n + 2) z) second ∙ set_append_add l (x ∷ y ∷ c ∷ []) 2 z

-- what is left after words that fill a slice
pub nothing_left : (l d : List ℕ) → length d ≡ length l → l ++ drop (length l) d ≡ l
nothing_left l d same =
    ap (λ (r : List ℕ). l ++ r) (drop_of_length-le d {i = length l} (omega arith)) ∙ append-nil l

-- the words of a list of whole entries with one more of value 1
blinded-list : (l : List ℕ) (i : ℕ) {j k : ℕ} → length l % 3 ≡ 0 → j ≡ k
    → l ++ (i ∷ j ∷ 1 ∷ []) ≡ words_of_entries (entries_of l ++ (record { row = i; column = k; value = 1 } ∷ []))
unfolding words_of_entries
blinded-list l i {j} {k} whole same =
    ap₂ (λ (w : List ℕ) (j : ℕ). w ++ (i ∷ j ∷ 1 ∷ [])) (sym (entry-words_back l whole)) same
    ∙ sym (words_append (entries_of l) (record { row = i; column = k; value = 1 } ∷ []))

-- all four slices, from the columns that are reserved
pub all_filled : (w : CircuitWords) (z : List ℕ) (ρ t : Three ℕ) {a b c blinded : List ℕ} → t ≡ reserved_columns (circuit_of w)
    → length w.matrices.a % 3 ≡ 0 → length w.matrices.b % 3 ≡ 0 → length w.matrices.c % 3 ≡ 0
    → a ≡ w.matrices.a ++ ((w.|R| - 1) ∷ t.a ∷ 1 ∷ [])
    → b ≡ w.matrices.b ++ ((w.|R| - 1) ∷ t.b ∷ 1 ∷ [])
    → c ≡ w.matrices.c ++ ((w.|R| - 1) ∷ t.c ∷ 1 ∷ [])
    → blinded ≡ set (set (set z t.a ρ.a) t.b ρ.b) t.c ρ.c
    → ◌≡◌ {A = Three (List ℕ) × List ℕ} (record { a = a; b = b; c = c }, blinded) (blinded_words w z ρ)
unfolding circuit_of blinded_circuit blinded_assignment
all_filled w z ρ t same whole-a whole-b whole-c a b c blinded =
    let last : ℕ = w.|R| - 1 in
    let in_a = a ∙ blinded-list w.matrices.a last whole-a (ap (λ (t : Three ℕ). t.a) same) in
    let in_b = b ∙ blinded-list w.matrices.b last whole-b (ap (λ (t : Three ℕ). t.b) same) in
    let in_c = c ∙ blinded-list w.matrices.c last whole-c (ap (λ (t : Three ℕ). t.c) same) in
    let in-z = blinded ∙ ap (λ (t : Three ℕ). set (set (set z t.a ρ.a) t.b ρ.b) t.c ρ.c) same in
    λ i. (record { a = in_a i; b = in_b i; c = in_c i }, in-z i)
