-- Lists of words and the polynomials that they stand for, entry by entry: what a loop of the code computes at an entry is the
-- coefficient that its contract names. Assumes nothing.
use Rattle.std.proofs.Common.{◌≡◌, refl, sym, ap, ◌∙◌, List, [], ◌∷◌, ◌++◌, map, ℕ, zero, suc, get_or, replicate}
use mathlib.Core.List.{tail}
use lib.ListN.{get_or-map}
use Rattle.field.specs.Prime.{Prime}
use Rattle.field.specs.Element.{Elem, of, 𝟘, words}
use Rattle.field.proofs.Words.{of-result}
use Rattle.domain.proofs.Fill.{word-at}

-- a list of one value alone, which stands past its end too
pub replicate-at : {A : Type 0} (d : A) (n i : ℕ) → get_or (replicate n d) i d ≡ d
replicate-at d zero i = refl
replicate-at d (suc n) zero = refl
replicate-at d (suc n) (suc i) = replicate-at d n i

module _ {q : Prime} where
  pub words_tail : (l : List (Elem q)) → tail (words l) ≡ words (tail l)
  words_tail [] = refl
  words_tail (a ∷ l) = refl

  -- zeros after the last do not change what get_or finds
  pub zeros-after : (l : List (Elem q)) (n i : ℕ) → get_or (l ++ replicate n 𝟘) i 𝟘 ≡ get_or l i 𝟘
  zeros-after [] n i = replicate-at 𝟘 n i
  zeros-after (a ∷ l) n zero = refl
  zeros-after (a ∷ l) n (suc i) = zeros-after l n i

  pub of-zeros : (n : ℕ) → map of (replicate n 0) ≡ replicate n (𝟘 {q = q})
  of-zeros zero = refl
  of-zeros (suc n) = ap (λ l. 𝟘 ∷ l) (of-zeros n)

  pub element-at : (l : List ℕ) (i : ℕ) → of {q = q} (get_or l i 0) ≡ get_or (map of l) i 𝟘
  element-at l i = sym (get_or-map of l i 0)

  -- a word computed as x, where the target has the coefficient x
  pub made_at : {r : ℕ} {x : Elem q} (l : List (Elem q)) (i : ℕ) → r ≡ x.word → get_or l i 𝟘 ≡ x → r ≡ get_or (words l) i 0
  made_at l i made e = made ∙ ap (λ (a : Elem q). a.word) (sym e) ∙ sym (word-at l i)

  -- the word of an element is a field word already
  pub reduced : {r : ℕ} (x : Elem q) → r ≡ x.word → r ≡ (of {q = q} r).word
  reduced x e = e ∙ sym (ap (λ (a : Elem q). a.word) (of-result x e))
