-- Calls that return at the first refusal: what a `?` returns where its answer refuses, what it leaves to the next where it does not, and an
-- answer that is only asked whether it refuses. Assumes nothing.
use Rattle.std.proofs.Common.{◌≡◌, refl, sym, ap, ◌∙◌, arith, Bool, true, false, List, [], ◌∷◌, ◌++◌, ℕ, suc}
use Rattle.std.specs.Prelude.{Result, Ok, Err, IsErrAnd, is_ok}
use mathlib.Core.Option.{Option, none, some}
use Rattle.shared.specs.declared.Refusal as declared-refusal
use Rattle.shared.specs.Meanings.{refusal, refusal_in, outcome}
use Rattle.protocol.specs.Refusals.{Refusal, Refused, first, refuse}
use Rattle.protocol.specs.Session.{all}
use Rattle.protocol.proofs.RefusalLaws.{refuse-none, all_true}
use Rattle.protocol.proofs.Rows.{first_only, first-front}

-- what a `?` returns where the answer refuses with e: the first refusal
pub exits : {T : Type 0} (r : Result T declared-refusal.Refusal) (e : declared-refusal.Refusal) → IsErrAnd r (λ y. y ≡ e)
    → refusal_in r ≡ some (refusal e)
exits (Ok x) e h = absurd h
exits (Err y) e h = ap (λ y. some (refusal y)) h

-- the same, where the answer has a result
pub exits_as : {S T : Type 0} (meaning : S → T) (r : Result S declared-refusal.Refusal) (e : declared-refusal.Refusal) → IsErrAnd r (λ y. y ≡ e)
    → outcome meaning r ≡ Refused (refusal e)
exits_as meaning (Ok x) e h = absurd h
exits_as meaning (Err y) e h = ap (λ y. Refused (refusal y)) h

module _ {T : Type 0} (r : Result T declared-refusal.Refusal) (e : declared-refusal.Refusal) (exit : IsErrAnd r (λ y. y ≡ e)) where
  pub stops : {o : Option Refusal} → some (refusal e) ≡ o → (l : List (Option Refusal)) → refusal_in r ≡ first (o ∷ l)
  stops says l = exits r e exit ∙ ap (λ o. first (o ∷ l)) says

  -- the same for an answer on several rows
  pub stops_among : (front : List (Option Refusal)) → some (refusal e) ≡ first front → (l : List (Option Refusal))
      → refusal_in r ≡ first (front ++ l)
  stops_among front says l = stops says l ∙ first-front front l

-- an answer that does not refuse: the first refusal is among the others
pub goes_on : {o x : Option Refusal} → none ≡ o → (l : List (Option Refusal)) → x ≡ first l → x ≡ first (o ∷ l)
goes_on says l e = e ∙ ap (λ o. first (o ∷ l)) says

pub goes_past : {x : Option Refusal} (front : List (Option Refusal)) → none ≡ first front → (l : List (Option Refusal)) → x ≡ first l
    → x ≡ first (front ++ l)
goes_past front says l e = goes_on says l e ∙ first-front front l

-- the last answer of several
pub last_answer_lem : {x o : Option Refusal} → x ≡ o → x ≡ first (o ∷ [])
last_answer_lem {x} {o} e = e ∙ sym (first_only o)

-- the same for a row of one test that the code makes itself
module _ (number n : ℕ) (l : List (Option Refusal)) {test : Bool} where
  pub fails_first : test ≡ false → some (record { number = number; position = n }) ≡ first (refuse number n (test ∷ []) ∷ l)
  fails_first e = ap (λ (t : Bool). first (refuse number n (t ∷ []) ∷ l)) (sym e)

  pub passes : {x : Option Refusal} → test ≡ true → x ≡ first l → x ≡ first (refuse number n (test ∷ []) ∷ l)
  passes t e = e ∙ ap (λ (t : Bool). first (refuse number n (t ∷ []) ∷ l)) (sym t)

-- where a row is only asked whether all its tests pass
pub ok_is : {T : Type 0} (r : Result T declared-refusal.Refusal) (number n : ℕ) (tests : List Bool) → refusal_in r ≡ refuse number n tests
    → is_ok r ≡ all tests
ok_is (Ok x) number n tests e = sym (all_true tests (refuse-none number n tests (sym e)))
ok_is (Err d) number n tests e = sym (fails n tests e)
  where
    fails : (n : ℕ) (tests : List Bool) → some (refusal d) ≡ refuse number n tests → all tests ≡ false
    fails n [] e = let z : ◌≡◌ {A = ℕ} 0 1 = cc in absurd (omega arith)
    fails n (true ∷ l) e = fails (suc n) l e
    fails n (false ∷ l) e = refl
