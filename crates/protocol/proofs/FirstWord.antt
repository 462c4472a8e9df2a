-- Lists whose first word is 1, as column 0 asks: in words and in elements, with words after them, and in part. Assumes nothing.
use mathlib.Core.Path.{◌≡◌, sym, ap, ◌∙◌}
use mathlib.Core.Bool.{true}
use mathlib.Core.List.{List, [], ◌∷◌, ◌++◌, map}
use Prim.Native.Nat.{ℕ, zero, suc, ◌<◌}
use lib.ListN.{take}
use native.Mathlib.Omega.{arith}
use borrow.Author.Tests.{eqb-true, eq-eqb}
use Rattle.field.specs.Prime.{Prime}
use Rattle.field.specs.Element.{Elem, of, word_of, words}
use Rattle.field.proofs.ElementLaws.{one_not_zero}
use Rattle.field.proofs.Words.{word-of}
use Rattle.protocol.specs.Circuit.{BeginsWithOne}
use Rattle.protocol.specs.Refusals.{begins_with_one}

-- the empty list has no first word
no_word : begins_with_one [] ≡ true → ⊥
no_word e = let z : ◌≡◌ {A = ℕ} 0 1 = eqb-true 0 1 e in omega arith

module _ (q : Prime) where
  pub first-element : (ws : List ℕ) → begins_with_one ws ≡ true → BeginsWithOne {q = q} (map of ws)
  first-element [] e = absurd (no_word e)
  first-element (w ∷ ws) e = ap of (eqb-true w 1 e)

  pub first_word : (l : List (Elem q)) → BeginsWithOne l → begins_with_one (words l) ≡ true
  first_word [] e = absurd (one_not_zero (sym e))
  first_word (a ∷ l) e = eq-eqb a.word 1 (ap word_of e ∙ word-of q 1 (omega (arith, q.above_two)))

pub begins-front : (ws vs : List ℕ) → begins_with_one ws ≡ true → begins_with_one (ws ++ vs) ≡ true
begins-front [] vs e = absurd (no_word e)
begins-front (w ∷ ws) vs e = e

pub begins-part : (n : ℕ) (ws : List ℕ) → 0 < n → begins_with_one ws ≡ true → begins_with_one (take n ws) ≡ true
begins-part zero ws l e = absurd (omega arith)
begins-part (suc n) [] l e = e
begins-part (suc n) (w ∷ ws) l e = e
