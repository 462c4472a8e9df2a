-- The answer of a call whose inner function says what it leaves in the lent slice. Assumes nothing.
use Rattle.std.proofs.Common.{◌≡◌, ap, ◌∙◌, List, ℕ, arith}
use Rattle.std.specs.Prelude.{Result, Ok, Err}
use mathlib.Core.Option.{none, some}
use Rattle.shared.specs.declared.Refusal as declared
use Rattle.shared.specs.Meanings.{refusal, refusal_in}
use Rattle.shared.specs.Answers.{LentAnswer}
use Rattle.protocol.specs.Refusals.{Refusal, Outcome, Done, Refused}
use Rattle.varuna.specs.Answers.{filled_meaning, filling, fills}

pub lent : (o : Outcome (List ℕ)) (r : Result (Unit {0}) declared.Refusal) {before after : List ℕ} → LentAnswer o (refusal_in r) before after
    → filling (filled_meaning r) after ≡ fills o before
lent (Done w) (Ok u) h = ap (filling (Done tt)) h.lent
lent (Done w) (Err e) h =
    let never : some (refusal e) ≡ none = h.answer in
    let z : ◌≡◌ {A = ℕ} 0 1 = cc in
    absurd (omega arith)
lent (Refused f) (Ok u) h =
    let never : none ≡ some f = h.answer in
    let z : ◌≡◌ {A = ℕ} 0 1 = cc in
    absurd (omega arith)
lent (Refused f) (Err e) {before} {after} h =
    let same : some (refusal e) ≡ some f = h.answer in
    let inner : refusal e ≡ f = cc in
    ap (λ (r : Refusal). filling (Refused r) after) inner ∙ ap (filling (Refused f)) h.lent
