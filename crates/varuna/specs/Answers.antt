-- What the answers of public calls mean, and what a call leaves in its lent slices. Assumes nothing.
use Rattle.std.specs.Prelude.{◌≡◌, refl, List, [], ◌∷◌, ◌++◌, ℕ, Result}
use Rattle.algebra.specs.Polynomial.{Running}
use Rattle.poly.specs.Meanings.{under_way}
use Rattle.shared.specs.declared.Opened.{Opened}
use Rattle.protocol.specs.Three.{Three}
use Rattle.protocol.specs.Checks.{list_openings}
use Rattle.protocol.specs.Refusals.{Outcome, Done, Refused}
use Rattle.shared.specs.declared.Refusal as declared
use Rattle.shared.specs.declared.Three as declared-three
use Rattle.poly.specs.declared.Running as declared-running
use Rattle.openings.specs.declared.AllOpened.{AllOpened}
use Rattle.openings.specs.declared.IndexOpened.{IndexOpened}
use Rattle.shared.specs.Meanings.{three, outcome}
use Rattle.shared.specs.Meanings as meanings
use Rattle.openings.specs.OpeningsGiven.{message_list, index_list, opened_list}

-- what an answer means, in document 01's numbers and values: one word, an evaluation under way, one word for each matrix, lent slices that
-- are filled
abbrev pub word_meaning : Result ℕ declared.Refusal → Outcome ℕ
word_meaning r = outcome (λ w. w) r

abbrev pub evaluated_meaning : Result declared-running.Running declared.Refusal → Outcome (Running ℕ)
evaluated_meaning r = outcome under_way r

abbrev pub three_meaning : Result (declared-three.Three ℕ) declared.Refusal → Outcome (Three ℕ)
three_meaning r = outcome three r

abbrev pub filled_meaning : Result (Unit {0}) declared.Refusal → Outcome (Unit {0})
filled_meaning r = outcome (λ u. u) r

-- the meaning of the answer of a call with lent slices, and the slices when it returns
pub record Filling (T S : Type 0) : Type 0 where
  pub answer : Outcome T
  pub slice : S

module _ {S : Type 0} where
  abbrev pub filling : {T : Type 0} → Outcome T → S → Filling T S
  filling answer slice = record { answer = answer; slice = slice }

  -- the slices hold the result, or what they held before
  abbrev pub fills : Outcome S → S → Filling (Unit {0}) S
  fills (Done result) before = filling (Done tt) result
  fills (Refused r) before = filling (Refused r) before

  -- with one word for each matrix
  abbrev pub fills_three : Outcome (Three ℕ × S) → S → Filling (Three ℕ) S
  fills_three (Done result) before = filling (Done result.0) result.1
  fills_three (Refused r) before = filling (Refused r) before

-- the openings of the index polynomials in order, and as the session takes them
abbrev pub indexes_list : declared-three.Three IndexOpened → List ℕ
indexes_list i = index_list i.a ++ (index_list i.b ++ index_list i.c)

abbrev pub index_arrays : declared-three.Three IndexOpened → List (List ℕ)
index_arrays i = index_list i.a ∷ index_list i.b ∷ index_list i.c ∷ []

-- the 21 openings that a call answers are those that the session hears, when it is given the answer
pub handed_over_lem : (o : Opened) (i : declared-three.Three IndexOpened)
    → list_openings (meanings.openings o (index_arrays i)) ≡ message_list o ++ indexes_list i
handed_over_lem o i = refl

abbrev pub openings_meaning : Result AllOpened declared.Refusal → Outcome (List ℕ)
openings_meaning r = outcome opened_list r
