-- How many things have a property, counted by lists without repetition: no enumeration of the type is needed. Assumes nothing.
use Rattle.std.specs.Prelude.{◌≡◌, ◌≢◌, ◌⊎◌, List, [], ◌∷◌, ℕ, ◌≤◌, ◌<◌, length}

module _ {A : Type 0} where
  -- every member of the list has the property
  abbrev pub All : (A → Type 0) → List A → Type 0
  All P [] = Unit {0}
  All P (x ∷ l) = P x × All P l

  -- no member stands twice in the list
  abbrev pub Distinct : List A → Type 0
  Distinct [] = Unit {0}
  Distinct (x ∷ l) = All (λ y. y ≢ x) l × Distinct l

  -- at most n things have the property
  abbrev pub AtMost : ℕ → (A → Type 0) → Type 0
  AtMost n P = (l : List A) → Distinct l → All P l → length l ≤ n

  -- more than n things have the property
  abbrev pub MoreThan : ℕ → (A → Type 0) → Type 0
  MoreThan n P = (l : List A) × Distinct l × All P l × (n < length l)

  -- x stands in the list
  abbrev pub Member : A → List A → Type 0
  Member x [] = ⊥
  Member x (y ∷ l) = (x ≡ y) ⊎ Member x l

  -- exactly n things have the property: a list without repetition, of n members, holds exactly what has it
  pub record Exactly (n : ℕ) (P : A → Type 0) : Type 0 where
    pub members : List A
    pub distinct : Distinct members
    pub count : length members ≡ n
    pub have : All P members
    pub whole : (x : A) → P x → Member x members
