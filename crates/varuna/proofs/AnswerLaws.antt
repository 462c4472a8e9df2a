-- The answer of a call by its judgement: done where nothing is refused, and otherwise the refusal, with each lent slice as it was.
-- Assumes nothing.
use Rattle.std.proofs.Common.{◌≡◌, ap, ap₂, ◌∙◌, ℕ}
use Rattle.std.specs.Prelude.{Result, IsErrAnd}
use mathlib.Core.Option.{Option, none, some}
use Rattle.shared.specs.declared.Refusal as declared
use Rattle.shared.specs.declared.Three as declared-three
use Rattle.shared.specs.Meanings.{refusal, outcome}
use Rattle.shared.proofs.EarlyReturns.{exits_as}
use Rattle.protocol.specs.Three.{Three}
use Rattle.protocol.specs.Refusals.{Refusal, Outcome, Done, judged}
use Rattle.varuna.specs.Answers.{filled_meaning, three_meaning, filling, fills, fills_three}
use Rattle.varuna.specs.Inputs.{three_of}

pub three_same : {T : Type 0} {a b c : T} (w : Three T) → a ≡ w.a → b ≡ w.b → c ≡ w.c → three_of a b c ≡ w
three_same {T} {a} {b} {c} w at_a at_b at_c = ap (λ (n : T). three_of n b c) at_a ∙ ap₂ (λ (m n : T). three_of w.a m n) at_b at_c

-- what a `?` answers where the judgement refuses with e
pub refuses : {S T : Type 0} (meaning : S → T) (r : Result S declared.Refusal) (e : declared.Refusal) → IsErrAnd r (λ y. y ≡ e)
    → {o : Option Refusal} → some (refusal e) ≡ o → (w : T) → outcome meaning r ≡ judged o w
refuses {S} {T} meaning r e h says w = exits_as meaning r e h ∙ ap (λ (o : Option Refusal). judged o w) says

pub done : {T : Type 0} {o : Option Refusal} {v : T} (w : T) → none ≡ o → v ≡ w → Done v ≡ judged o w
done {T} {o} {v} w fine same = ap₂ (λ (o : Option Refusal) (w : T). judged o w) fine same

module _ {o : Option Refusal} {S : Type 0} (before : S) where
  pub fill_refuses : (r : Result (Unit {0}) declared.Refusal) (e : declared.Refusal) → IsErrAnd r (λ y. y ≡ e) → some (refusal e) ≡ o
      → (result : S) → filling (filled_meaning r) before ≡ fills (judged o result) before
  fill_refuses r e h says result =
      ap (λ (a : Outcome (Unit {0})). filling a before) (exits_as (λ (u : Unit {0}). u) r e h)
      ∙ ap (λ (o : Option Refusal). fills (judged o result) before) says

  pub fill_done : {after result : S} → none ≡ o → after ≡ result → filling (Done tt) after ≡ fills (judged o result) before
  fill_done {after} {result} fine same = ap₂ (λ (o : Option Refusal) (w : S). fills (judged o w) before) fine same

  pub fill_three-refuses : (r : Result (declared-three.Three ℕ) declared.Refusal) (e : declared.Refusal) → IsErrAnd r (λ y. y ≡ e)
      → some (refusal e) ≡ o → (result : Three ℕ × S) → filling (three_meaning r) before ≡ fills_three (judged o result) before
  fill_three-refuses r e h says result =
      ap (λ (a : Outcome (Three ℕ)). filling a before) (exits_as _ r e h)
      ∙ ap (λ (o : Option Refusal). fills_three (judged o result) before) says

  pub fill_three-done : {t w : Three ℕ} → none ≡ o → t ≡ w → {after result : S} → after ≡ result
      → filling (Done t) after ≡ fills_three (judged o (w, result)) before
  fill_three-done {t} {w} fine words {after} {result} same =
      ap₂ (λ (w : Three ℕ) (l : S). filling (Done w) l) words same ∙ ap (λ (o : Option Refusal). fills_three (judged o (w, result)) before) fine
