-- The sums of a matrix's rows, entry by entry, and the rows' tests on words. Assumes nothing.
use mathlib.Core.Path.{◌≡◌, refl, sym, ap, ap₂, ◌∙◌, subst⁻¹}
use mathlib.Core.Bool.{true}
use mathlib.Core.List.{List, [], ◌∷◌, ◌++◌}
use Prim.Native.Nat.{ℕ, ◌+◌, ◌≤◌, ◌<◌}
use native.Mathlib.Omega.{arith}
use lib.Dec.{eqb}
use lib.ListN.{length, get_or, take, set, replicate, get_or-replicate, length-replicate, length-set}
use lib.Seq.{take-suc, take_all, get_or-set_same, get_or-set_other, ext_get_or}
use native.Mathlib.Numerals.{add-one}
use native.Mathlib.Decide.{ℕ_discrete}
use borrow.Author.Tests.{eq-eqb, ne_eqb}
use Rattle.algebra.specs.Lists.{pick, tabulate}
use Rattle.algebra.specs.Ring.{CommRing}
use Rattle.algebra.specs.Sum.{sum_list}
use Rattle.algebra.proofs.Choice.{pick_true, pick-false}
use Rattle.algebra.proofs.PolynomialLaws.{length-tabulate, get_d_tabulate}
use Rattle.field.specs.Prime.{Prime}
use Rattle.field.specs.Element.{Elem, of, 𝟘, words, equal, ◌⊕◌, ◌⊗◌}
use Rattle.field.proofs.ElementLaws.{add_comm, add_assoc, add-zero, prime_ring}
use Rattle.field.proofs.Words.{of-result}
use Rattle.protocol.specs.Circuit.{Entry}
use Rattle.domain.proofs.Membership.{zero_word}
use Rattle.domain.proofs.Fill.{length_rule_words, rule_word-at}

module _ {q : Prime} (n : ℕ) (s t u : ℕ → Elem q) (left right product : List ℕ)
    (e-left : left ≡ words (tabulate n s)) (e-right : right ≡ words (tabulate n t)) (e-product : product ≡ words (tabulate n u)) where
  pub rows-count : length (tabulate n (λ i. equal (s i ⊗ t i) (u i))) ≡ length left
  rows-count = length-tabulate n (λ i. equal (s i ⊗ t i) (u i)) ∙ sym (ap length e-left ∙ length_rule_words n s)

  -- the test of row i, from its words
  pub row_test_lem : (i r : ℕ) → i < length left → r ≡ (of {q = q} (get_or left i 0) ⊗ of (get_or right i 0)).word
      → get_or (tabulate n (λ i. equal (s i ⊗ t i) (u i))) i true ≡ eqb r (get_or product i 0)
  row_test_lem i r within made =
      let multiplied : r ≡ (s i ⊗ t i).word =
      made ∙ ap₂ (λ (x y : Elem q). (x ⊗ y).word) (of-result (s i) (word s e-left)) (of-result (t i) (word t e-right)) in
      get_d_tabulate n i (λ i. equal (s i ⊗ t i) (u i)) true below ∙ sym (ap₂ eqb multiplied (word u e-product))
    where
      below : i < n
      below = omega (arith, ap length e-left, length_rule_words n s)

      word : (f : ℕ → Elem q) {l : List ℕ} → l ≡ words (tabulate n f) → get_or l i 0 ≡ (f i).word
      word f e = ap (λ l. get_or l i 0) e ∙ rule_word-at n f i below

module _ {q : Prime} (z : List (Elem q)) where
  abbrev R : CommRing (Elem q)
  R = prime_ring q

  -- what an entry adds to row j, and what entries add up to there
  abbrev pub added : ℕ → Entry → Elem q
  added j e = pick (eqb e.row j) (of e.value ⊗ get_or z e.column 𝟘) 𝟘

  abbrev pub sum_at : List Entry → ℕ → Elem q
  sum_at es j = sum_list R (added j) es

  sum_last : (j : ℕ) (es : List Entry) (e : Entry) → sum_at (es ++ (e ∷ [])) j ≡ sum_at es j ⊕ added j e
  sum_last j [] e = add_comm (added j e) 𝟘
  sum_last j (d ∷ es) e = ap (λ s. added j d ⊕ s) (sum_last j es e) ∙ sym (add_assoc (added j d) (sum_at es j) (added j e))

  -- the words are the rows' sums over the first i entries
  unfoldable pub Summed : List Entry → List ℕ → ℕ → Type 0
  Summed es out i = (j : ℕ) → j < length out → get_or out j 0 ≡ (sum_at (take i es) j).word

  module _ (es : List Entry) (out : List ℕ) where
    pub summed_none : (n : ℕ) → out ≡ replicate n 0 → Summed es out 0
    unfolding Summed
    summed_none n e j l =
        ap (λ l. get_or l j 0) e ∙ get_or-replicate n j 0 0 (omega (arith, ap length e, length-replicate {A = ℕ} n 0)) ∙ sym (zero_word q)

    pub summed_turn : (i : ℕ) (e : Entry) (r : ℕ) → i < length es → get_or es i e ≡ e → e.row < length out
        → r ≡ (of (get_or out e.row 0) ⊕ of e.value ⊗ get_or z e.column 𝟘).word → Summed es out i → Summed es (set out e.row r) (i + 1)
    unfolding Summed
    summed_turn i e r within here row made before j l = elim (ℕ_discrete j e.row) [ yes same ↦ changed same | no other ↦ kept other ]
      where
        more : take (i + 1) es ≡ take i es ++ (e ∷ [])
        more = rw add-one (take-suc es i e within ∙ ap (λ d. take i es ++ (d ∷ [])) here)

        next : (j : ℕ) → sum_at (take (i + 1) es) j ≡ sum_at (take i es) j ⊕ added j e
        next j = ap (λ l. sum_at l j) more ∙ sum_last j (take i es) e

        changed : j ≡ e.row → get_or (set out e.row r) j 0 ≡ (sum_at (take (i + 1) es) j).word
        changed same =
            subst⁻¹ (λ (j : ℕ). get_or (set out e.row r) j 0 ≡ (sum_at (take (i + 1) es) j).word) same
            (get_or-set_same out e.row r 0 row ∙ made
            ∙ ap (λ (x : Elem q). x.word)
            (ap₂ ◌⊕◌ (of-result (sum_at (take i es) e.row) (before e.row row)) (sym (pick_true _ 𝟘 (eq-eqb e.row e.row refl)))
            ∙ sym (next e.row)))

        kept : (j ≡ e.row → ⊥) → get_or (set out e.row r) j 0 ≡ (sum_at (take (i + 1) es) j).word
        kept other =
            get_or-set_other out e.row j r 0 other ∙ before j (omega (arith, length-set out e.row r))
            ∙ ap (λ (x : Elem q). x.word)
            (sym (next j ∙ ap (λ x. sum_at (take i es) j ⊕ x) (pick-false _ 𝟘 (ne_eqb e.row j (λ h. other (sym h)))) ∙ add-zero (sum_at (take i es) j)))

    pub summed_end : (i : ℕ) → length es ≤ i → Summed es out i → out ≡ words (tabulate (length out) (sum_at es))
    unfolding Summed
    summed_end i past before =
        ext_get_or 0 out (words (tabulate (length out) (sum_at es))) (sym (length_rule_words (length out) (sum_at es)))
        (λ j l. before j l ∙ ap (λ l. (sum_at l j).word) (take_all i es past) ∙ sym (rule_word-at (length out) (sum_at es) j l))
