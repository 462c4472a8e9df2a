-- Two lists of one length, one after the other, as a loop that fills both from the front leaves them: `halves i` has the first i
-- entries of each from the target of that half. Assumes nothing.
use Rattle.std.proofs.Common.{◌≡◌, refl, sym, ap, ap₂, ◌∙◌, List, ◌++◌, ℕ, ◌+◌, ◌≤◌, ◌<◌, arith, length, take, drop, set, get_or, length-append, length-take, length-drop, get_or-append-add}
use lib.ListN.{get_or-append}
use lib.Seq.{set-append_left}
use Rattle.algebra.proofs.ListLaws.{set_append_add}
use Rattle.poly.proofs.Stores.{joined, joined-none, joined-all, joined-second, store_up}

module _ {A : Type 0} where
  length-joined : (l m : List A) (i : ℕ) → length l ≡ length m → i ≤ length m → length (joined l m i) ≡ length m
  unfolding joined
  length-joined l m i e le = omega (arith, length-append (take i l) (drop i m), length-take i l, length-drop i m)

module _ (plus minus even odd : List ℕ) where
  abbrev pub halves : ℕ → List ℕ
  halves i = joined plus even i ++ joined minus odd i

module _ (h : ℕ) (plus minus even odd : List ℕ) (plus_length : length plus ≡ h) (minus_length : length minus ≡ h)
    (even-length : length even ≡ h) (odd-length : length odd ≡ h) where
  abbrev filled : ℕ → List ℕ
  filled = halves plus minus even odd

  pub halves_none : even ++ odd ≡ filled 0
  halves_none = ap₂ ◌++◌ (joined-none plus even) (joined-none minus odd)

  pub halves_all : (i : ℕ) → h ≤ i → filled i ≡ plus ++ minus
  halves_all i le = ap₂ ◌++◌ (joined-all plus even i (omega arith) (omega arith)) (joined-all minus odd i (omega arith) (omega arith))

  module _ (i : ℕ) (below : i < h) where
    first-length : length (joined plus even i) ≡ h
    first-length = length-joined plus even i (omega arith) (omega arith) ∙ even-length

    pub even_at : get_or (filled i) i 0 ≡ get_or even i 0
    even_at =
        get_or-append (joined plus even i) (joined minus odd i) 0 i (omega (arith, first-length))
        ∙ joined-second plus even i i 0 (omega arith) (omega arith)

    pub odd_at : get_or (filled i) (h + i) 0 ≡ get_or odd i 0
    odd_at =
        ap (λ (n : ℕ). get_or (filled i) (n + i) 0) (sym first-length)
        ∙ get_or-append-add (joined plus even i) (joined minus odd i) i 0 ∙ joined-second minus odd i i 0 (omega arith) (omega arith)

    pub halves_turn : (a b : ℕ) → a ≡ get_or plus i 0 → b ≡ get_or minus i 0 → set (set (filled i) i a) (h + i) b ≡ filled (i + 1)
    halves_turn a b is-plus is-minus =
        let stored : set (joined plus even i) i a ≡ joined plus even (i + 1) =
        store_up plus even (joined plus even i) i a 0 (omega arith) (omega arith) refl is-plus in
        let next-length : length (joined plus even (i + 1)) ≡ h =
        length-joined plus even (i + 1) (omega arith) (omega arith) ∙ even-length in
        ap (λ (l : List ℕ). set l (h + i) b)
        (set-append_left (joined plus even i) (joined minus odd i) i a (omega (arith, first-length))
        ∙ ap (λ (l : List ℕ). l ++ joined minus odd i) stored)
        ∙ ap (λ (n : ℕ). set (joined plus even (i + 1) ++ joined minus odd i) (n + i) b) (sym next-length)
        ∙ set_append_add (joined plus even (i + 1)) (joined minus odd i) i b
        ∙ ap (λ (l : List ℕ). joined plus even (i + 1) ++ l)
        (store_up minus odd (joined minus odd i) i b 0 (omega arith) (omega arith) refl is-minus)
