-- The transform by halves, over any ring: "the even and the odd positions are each transformed, then joined with the domain's powers,
-- down to size 1" (document 02, request 6). Assumes nothing.
use Rattle.std.specs.Prelude.{List, [], ◌∷◌, ◌++◌, ℕ, zero, suc, ◌^◌, get_or}
use Rattle.algebra.specs.Lists.{tabulate}
use Rattle.algebra.specs.Ring.{CommRing, pow}

module _ {A : Type 0} where
  -- the members at the positions 0, 2, 4, ..
  abbrev pub evens : List A → List A
  evens [] = []
  evens (a ∷ []) = a ∷ []
  evens (a ∷ (b ∷ l)) = a ∷ evens l

  -- the members at the positions 1, 3, 5, ..
  abbrev pub odds : List A → List A
  odds [] = []
  odds (a ∷ []) = []
  odds (a ∷ (b ∷ l)) = b ∷ odds l

module _ {A : Type 0} (R : CommRing A) where
  open R use {𝟘, ◌⊕◌, ◌⊗◌, neg}

  infixl 75 ◌⊕◌
  infixl 80 ◌⊗◌
  -- e_i + w^i·o_i for i below n, then e_i - w^i·o_i
  unfoldable pub join : ℕ → A → List A → List A → List A
  join n w e o =
      tabulate n (λ i. get_or e i 𝟘 ⊕ pow R w i ⊗ get_or o i 𝟘) ++ tabulate n (λ i. get_or e i 𝟘 ⊕ neg (pow R w i ⊗ get_or o i 𝟘))

  -- of a list of length 2^k, with the powers of w; each half is transformed with those of w²
  unfoldable pub transform : ℕ → A → List A → List A
  transform zero w f = f
  transform (suc k) w f = join (2 ^ k) w (transform k (w ⊗ w) (evens f)) (transform k (w ⊗ w) (odds f))
