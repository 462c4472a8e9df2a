-- What is asked of a call, row by row of the table of refusals, as conditions and not as tests: that all of them are met, and which one
-- is the first that is not (document 01, "Refusals by place of check": "A refusal is a number and a position from 0. Checks run down the
-- table"). Assumes nothing.
use Rattle.std.specs.Prelude.{◌≡◌, ◌⊎◌, List, [], ◌∷◌, ℕ, zero, suc}
use Rattle.std.proofs.Math.Option.{Option, none, some}
use Rattle.protocol.specs.Refusals.{Refusal, Outcome, Done, Refused}

-- a row as a call has it: its number, the position of its first condition, and the conditions in the order of their positions
pub record Row : Type 1 where
  pub number : ℕ
  pub position : ℕ
  pub conditions : List (Type 0)

abbrev pub row : ℕ → ℕ → List (Type 0) → Row
row number position conditions = record { number = number; position = position; conditions = conditions }

-- every condition holds
abbrev pub Hold : List (Type 0) → Type 0
Hold [] = Unit {0}
Hold (P ∷ l) = P × Hold l

-- every row is met: nothing is refused
abbrev pub Met : List Row → Type 0
Met [] = Unit {0}
Met (r ∷ rows) = Hold r.conditions × Met rows

-- the first condition that does not hold has position k, the conditions being counted from n
abbrev pub FirstFailing : ℕ → List (Type 0) → ℕ → Type 0
FirstFailing n [] k = ⊥
FirstFailing n (P ∷ l) k = ((¬ P) × (k ≡ n)) ⊎ (P × FirstFailing (suc n) l k)

-- f is the first refusal of the rows: those before its own are met, and in its own its position is that of the first condition that does
-- not hold
abbrev pub FirstRefusal : List Row → Refusal → Type 0
FirstRefusal [] f = ⊥
FirstRefusal (r ∷ rows) f =
    ((f.number ≡ r.number) × FirstFailing r.position r.conditions f.position) ⊎ (Hold r.conditions × FirstRefusal rows f)

-- nothing is refused exactly when every row is met, and f exactly when it is the first refusal
pub record Refuses (rows : List Row) (refusal : Option Refusal) : Type 0 where
  pub met : Met rows → refusal ≡ none
  pub unrefused : refusal ≡ none → Met rows
  pub first : (f : Refusal) → FirstRefusal rows f → refusal ≡ some f
  pub refused : (f : Refusal) → refusal ≡ some f → FirstRefusal rows f

-- "a complete result or the first refusal": a call is done exactly when every row is met, with one result, and is else refused by the
-- first refusal
pub record Answers {T : Type 0} (rows : List Row) (outcome : Outcome T) : Type 0 where
  pub result : T
  pub met : Met rows → outcome ≡ Done result
  pub done : (other : T) → outcome ≡ Done other → Met rows
  pub first : (f : Refusal) → FirstRefusal rows f → outcome ≡ Refused f
  pub refused : (f : Refusal) → outcome ≡ Refused f → FirstRefusal rows f

-- the condition for each number below n
abbrev pub for_each : ℕ → (ℕ → Type 0) → List (Type 0)
for_each zero P = []
for_each (suc n) P = P 0 ∷ for_each n (λ i. P (suc i))

-- the condition for each pair of members at the same place
abbrev pub for_pairs : {S T : Type 0} → (S → T → Type 0) → List S → List T → List (Type 0)
for_pairs P [] k = []
for_pairs P (m ∷ l) [] = []
for_pairs P (m ∷ l) (n ∷ k) = P m n ∷ for_pairs P l k
