-- A loop that fills a slice from the front: what it has written so far agrees with a target list. Also the entries of a list of
-- words. Assumes nothing.
use mathlib.Core.Path.{◌≡◌, refl, sym, ap, ◌∙◌}
use mathlib.Core.List.{List, [], ◌∷◌, ◌++◌}
use Prim.Native.Nat.{ℕ, ◌+◌, ◌≤◌, ◌<◌}
use native.Mathlib.Omega.{arith}
use native.Mathlib.Numerals.{add-one}
use native.Mathlib.Nat.{zero-mod}
use lib.ListN.{length, take, set, get_or, length-map, get_or-map}
use lib.Seq.{take-suc, take-suc-set, take_all}
use Rattle.algebra.specs.Lists.{tabulate}
use Rattle.algebra.proofs.PolynomialLaws.{length-tabulate, get_d_tabulate}
use Rattle.field.specs.Prime.{Prime}
use Rattle.field.specs.Element.{Elem, of, 𝟘, words}

-- the first i entries of a list are those of the target
unfoldable pub Filled : List ℕ → List ℕ → ℕ → Type 0
Filled target l i = take i l ≡ take i target

module _ (target l : List ℕ) where
  pub fill_none : Filled target l 0
  unfolding Filled
  fill_none = refl

  pub fill_turn : (i v : ℕ) → i < length l → i < length target → Filled target l i → v ≡ get_or target i 0
      → Filled target (set l i v) (i + 1)
  unfolding Filled
  fill_turn i v in_List in-target before e =
      rw add-one
      (take-suc-set l i v in_List ∙ ap (λ (front : List ℕ). front ++ (v ∷ [])) before
      ∙ ap (λ (x : ℕ). take i target ++ (x ∷ [])) e ∙ sym (take-suc target i 0 in-target))

  pub fill_end : (i : ℕ) → length l ≤ i → length target ≤ i → Filled target l i → l ≡ target
  unfolding Filled
  fill_end i past-list past-target before = sym (take_all i l past-list) ∙ before ∙ take_all i target past-target

module _ {q : Prime} where
  pub length-words : (l : List (Elem q)) → length (words l) ≡ length l
  length-words l = length-map l (λ (a : Elem q). a.word)

  pub word-at : (l : List (Elem q)) (i : ℕ) → get_or (words l) i 0 ≡ (get_or l i 𝟘).word
  unfolding of
  word-at l i = ap (get_or (words l) i) (sym (zero-mod q.p)) ∙ get_or-map (λ (a : Elem q). a.word) l i 𝟘

  -- the words of f 0, f 1, ..
  pub length_rule_words : (n : ℕ) (f : ℕ → Elem q) → length (words (tabulate n f)) ≡ n
  length_rule_words n f = length-words (tabulate n f) ∙ length-tabulate n f

  pub rule_word-at : (n : ℕ) (f : ℕ → Elem q) (i : ℕ) → i < n → get_or (words (tabulate n f)) i 0 ≡ (f i).word
  rule_word-at n f i l = word-at (tabulate n f) i ∙ ap (λ (a : Elem q). a.word) (get_d_tabulate n i f 𝟘 l)

  -- a turn of a loop that fills a slice with them, and its end
  pub rule_turn : (n : ℕ) (f : ℕ → Elem q) (l : List ℕ) (i v : ℕ) → length l ≡ n → i < n → Filled (words (tabulate n f)) l i
      → v ≡ (f i).word → Filled (words (tabulate n f)) (set l i v) (i + 1)
  rule_turn n f l i v same below before e =
      fill_turn (words (tabulate n f)) l i v (omega arith) (omega (arith, length_rule_words n f)) before
      (e ∙ sym (rule_word-at n f i below))

  pub rule_end : (n : ℕ) (f : ℕ → Elem q) (l : List ℕ) (i : ℕ) → length l ≡ n → n ≤ i → Filled (words (tabulate n f)) l i
      → l ≡ words (tabulate n f)
  rule_end n f l i same past = fill_end (words (tabulate n f)) l i (omega arith) (omega (arith, length_rule_words n f))
