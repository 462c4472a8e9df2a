-- Polynomials in one variable Y: lists of coefficients, the constant first, zeros at the end kept. Assumes nothing.
use Rattle.std.specs.Prelude.{List, [], ◌∷◌, ℕ, zero, suc, length, get_or, take, drop, replicate}
use Rattle.algebra.specs.Lists.{tabulate}
use Rattle.algebra.specs.Ring.{CommRing, pow}

-- an evaluation under way: the sum so far, and the power of the point that the next coefficient is multiplied by
pub record Running (A : Type 0) : Type 0 where
  pub sum : A
  pub power : A

abbrev pub running : {A : Type 0} → A → A → Running A
running sum power = record { sum = sum; power = power }

abbrev pub map_running : {A B : Type 0} → (A → B) → Running A → Running B
map_running f r = running (f r.sum) (f r.power)

module _ {A : Type 0} (R : CommRing A) where
  open R use {𝟘, 𝟙, ◌⊕◌, ◌⊗◌}

  infixl 75 ◌⊕◌
  infixl 80 ◌⊗◌
  -- the value at x
  abbrev pub eval : List A → A → A
  eval [] x = 𝟘
  eval (c ∷ f) x = c ⊕ x ⊗ eval f x

  -- evaluation taken up midway, with the next part of a list: "the sum plus power times the part's value, and the power times the
  -- point once per coefficient" (document 02, request 5)
  abbrev pub eval_part : Running A → A → List A → Running A
  eval_part r x part = running (r.sum ⊕ r.power ⊗ eval part x) (r.power ⊗ pow R x (length part))

  -- "begun with 0 and 1"
  abbrev pub begun : Running A
  begun = running 𝟘 𝟙

  -- one part after the other
  abbrev pub eval_parts : Running A → A → List (List A) → Running A
  eval_parts r x [] = r
  eval_parts r x (part ∷ parts) = eval_parts (eval_part r x part) x parts

  -- f + g, as long as the longer of the two
  abbrev pub add : List A → List A → List A
  add [] g = g
  add (a ∷ f) [] = a ∷ f
  add (a ∷ f) (b ∷ g) = (a ⊕ b) ∷ add f g

  -- k · f
  abbrev pub scale : A → List A → List A
  scale k [] = []
  scale k (a ∷ f) = k ⊗ a ∷ scale k f

  -- f · g
  abbrev pub mul : List A → List A → List A
  mul [] g = []
  mul (a ∷ f) g = add (scale a g) (𝟘 ∷ mul f g)

  -- f(s·Y): coefficient i times s^i
  abbrev pub twist : A → List A → List A
  twist s f = tabulate (length f) (λ i. pow R s i ⊗ get_or f i 𝟘)

  -- Division by Y^n - 1. With f = low + Y^n · high, where low has n coefficients: the quotient of f is high plus the
  -- quotient of high, and the remainder of f is low plus the remainder of high. In closed form coefficient i of the quotient is
  -- f_{i+n} + f_{i+2n} + f_{i+3n} + .., and of the remainder f_i + f_{i+n} + f_{i+2n} + ... The first argument bounds the turns.
  abbrev pub quotient_in : ℕ → ℕ → List A → List A
  quotient_in zero n f = []
  quotient_in (suc k) n f = add (drop n f) (quotient_in k n (drop n f))

  abbrev pub remainder_in : ℕ → ℕ → List A → List A
  remainder_in zero n f = replicate n 𝟘
  remainder_in (suc k) n f = add (take n f) (remainder_in k n (drop n f))

  -- of length (length f - n)
  abbrev pub quotient : ℕ → List A → List A
  quotient n f = quotient_in (length f) n f

  -- of length n
  abbrev pub remainder : ℕ → List A → List A
  remainder n f = remainder_in (length f) n f
