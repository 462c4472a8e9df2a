-- The judgements of the calls on domains and polynomials, row by row. Assumes nothing.
use mathlib.Core.Path.{◌≡◌, sym, ap, ◌∙◌}
use mathlib.Core.Bool.{Bool, true}
use mathlib.Core.List.{List, [], ◌∷◌, ◌++◌, map}
use mathlib.Core.Option.{Option, none, some}
use Prim.Native.Nat.{ℕ, ◌+◌, ◌<◌, ◌≤◌}
use native.Mathlib.Nat.{zero-add}
use lib.Dec.{eqb, leb, ltb}
use lib.ListN.{length}
use borrow.Author.Tests.{le-leb, eq-eqb}
use Rattle.algebra.specs.Counting.{All}
use Rattle.field.specs.Prime.{Prime}
use Rattle.domain.specs.Size.{is_size}
use Rattle.domain.specs.Domain.{root}
use Rattle.std.specs.Prelude.{Result, IsErrAnd}
use Rattle.shared.specs.declared.Refusal as declared
use Rattle.shared.specs.Meanings.{refusal, refusal_in}
use Rattle.protocol.specs.Refusals.{Refusal, first, refuse, size_refusal, list_refusal, word_refusal}
use Rattle.protocol.specs.Calls.{max_words, evaluation_refusal}
use Rattle.protocol.proofs.FastInterpolation.{LetThrough}
use Rattle.protocol.proofs.RefusalLaws.{first-none, word_refusal-none}
use Rattle.protocol.proofs.Rows.{first_only, refuse-map_append}
use Rattle.shared.proofs.EarlyReturns.{stops, goes_on, last_answer_lem}

module _ (q : Prime) where
  abbrev pub below : ℕ → Bool
  below w = ltb w q.p

  -- 5 for n coefficients, then 6 for the words in two scans
  module _ (n : ℕ) (front back : List ℕ) (few : n ≤ max_words) where
    scans : first (refuse 6 0 (map below front) ∷ refuse 6 (0 + length front) (map below back) ∷ []) ≡ evaluation_refusal q n (front ++ back)
    unfolding list_refusal word_refusal
    scans =
        sym
        (ap (λ (t : Bool). first (refuse 5 0 (t ∷ []) ∷ word_refusal q (front ++ back) ∷ [])) (le-leb n max_words few)
        ∙ first_only (word_refusal q (front ++ back)) ∙ refuse-map_append 6 0 below front back)

    -- the first scan refuses with e
    pub evaluation_stops : (r : Result (Unit {0}) declared.Refusal) (e : declared.Refusal) → IsErrAnd r (λ y. y ≡ e)
        → some (refusal e) ≡ refuse 6 0 (map below front) → refusal_in r ≡ evaluation_refusal q n (front ++ back)
    evaluation_stops r e exit says = stops r e exit says (refuse 6 (0 + length front) (map below back) ∷ []) ∙ scans

    -- the second scan decides
    pub evaluation_goes : none ≡ refuse 6 0 (map below front) → {o : Option Refusal} → o ≡ refuse 6 (length front) (map below back)
        → o ≡ evaluation_refusal q n (front ++ back)
    evaluation_goes fine {o} answer =
        goes_on fine (refuse 6 (0 + length front) (map below back) ∷ [])
        (last_answer_lem (answer ∙ ap (λ (k : ℕ). refuse 6 k (map below back)) (sym (zero-add (length front)))))
        ∙ scans

  -- where nothing is refused every word is a field word
  pub evaluation_free : (n : ℕ) (ws : List ℕ) → evaluation_refusal q n ws ≡ none → All (λ w. w < q.p) ws
  evaluation_free n ws e =
      word_refusal-none q ws (first-none (list_refusal (leb n max_words ∷ []) ∷ word_refusal q ws ∷ []) e).1.0

-- 4 for the size n, 5 for the list and the lent slice; then the words decide
pub transform_goes : (n listed lent : ℕ) (o : Option Refusal) → is_size n ≡ true → listed ≡ n → lent ≡ n
    → o ≡ first (size_refusal (is_size n ∷ []) ∷ list_refusal (eqb listed n ∷ eqb lent n ∷ []) ∷ o ∷ [])
unfolding size_refusal list_refusal
transform_goes n listed lent o size e l = rw (size, eq-eqb listed n e, eq-eqb lent n l) (sym (first_only o))

-- what the transform asks of a size, a list and a slice that were let through, and its root
module _ {q : Prime} {n lent : ℕ} {ws : List ℕ} (t : LetThrough q n ws lent) where
  pub transform_asked : (lent ≡ length ws) × (is_size (length ws) ≡ true)
  transform_asked = (t.fits ∙ sym t.listed, ap is_size t.listed ∙ t.size)

  pub transform-root : {g : ℕ} → g ≡ (root {q = q} n).word → g ≡ (root {q = q} (length ws)).word
  transform-root e = e ∙ ap (λ (n : ℕ). (root {q = q} n).word) (sym t.listed)
