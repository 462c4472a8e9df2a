-- Finite sums in a commutative ring. Assumes nothing.
use Rattle.std.specs.Prelude.{List, [], ◌∷◌, ℕ, zero, suc}
use Rattle.algebra.specs.Ring.{CommRing}

module _ {A : Type 0} (R : CommRing A) where
  open R use {𝟘, ◌⊕◌}

  -- f 0 + f 1 + .. + f (n - 1)
  abbrev pub sum : ℕ → (ℕ → A) → A
  sum zero f = 𝟘
  sum (suc n) f = sum n f ⊕ f n

  -- f x summed over the members x of a list
  abbrev pub sum_list : {T : Type 0} → (T → A) → List T → A
  sum_list f [] = 𝟘
  sum_list f (x ∷ l) = f x ⊕ sum_list f l
