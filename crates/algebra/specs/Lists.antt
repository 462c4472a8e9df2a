-- A choice by a test, and lists made or searched by a rule. Assumes nothing.
use Rattle.std.specs.Prelude.{Bool, true, false, ◌||◌, List, [], ◌∷◌, ℕ, zero, suc}

-- the first of two values where the test passes, else the second
unfoldable pub pick : {T : Type 0} → Bool → T → T → T
pick true a b = a
pick false a b = b

-- f 0, f 1, .., f (n - 1)
abbrev pub tabulate : {T : Type 0} → ℕ → (ℕ → T) → List T
tabulate zero f = []
tabulate (suc n) f = f 0 ∷ tabulate n (λ i. f (suc i))

-- some member passes the test
abbrev pub any : {T : Type 0} → (T → Bool) → List T → Bool
any t [] = false
any t (x ∷ l) = t x || any t l

-- the first member that passes the test, d where there is none
abbrev pub first_or : {T : Type 0} → T → (T → Bool) → List T → T
first_or d t [] = d
first_or d t (x ∷ l) = pick (t x) x (first_or d t l)

-- the members that pass the test, in order
abbrev pub keep : {T : Type 0} → (T → Bool) → List T → List T
keep t [] = []
keep t (x ∷ l) = pick (t x) (x ∷ keep t l) (keep t l)
