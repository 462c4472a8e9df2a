-- What calls answer about the caller's memory: where a part of it stands, and what a lent slice holds. Assumes nothing.
use Rattle.std.specs.Prelude.{◌≡◌, List, [], ℕ, ◌+◌, ◌≤◌, take, drop}
use Rattle.std.proofs.Math.Option.{Option, none, some}
use Rattle.protocol.specs.Refusals.{Refusal, Outcome, Done, Refused}
use Rattle.shared.specs.declared.Place.{Place}

-- the start and the length of a part
abbrev pub place : Place → ℕ × ℕ
place p = (p.start, p.length)

-- a place that is found lies within so much memory
abbrev pub Within : ℕ → Outcome (ℕ × ℕ) → Type 0
Within n (Done (start, len)) = start + len ≤ n
Within n (Refused r) = Unit {0}

-- the part of the memory at a place that is found
abbrev pub part_at : List ℕ → Outcome (ℕ × ℕ) → List ℕ
part_at memory (Done (start, len)) = take len (drop start memory)
part_at memory (Refused r) = []

-- the refusal of a call
abbrev pub refusal_of : {T : Type 0} → Outcome T → Option Refusal
refusal_of (Done result) = none
refusal_of (Refused r) = some r

-- what a lent slice holds after a call: the result, and where the call is refused what it held before
abbrev pub lent_after : {T : Type 0} → Outcome T → T → T
lent_after (Done result) before = result
lent_after (Refused r) before = before

-- a call's refusal, and a lent slice before and after it, are those of the outcome
pub record LentAnswer {T : Type 0} (o : Outcome T) (refusal : Option Refusal) (before after : T) : Type 0 where
  pub answer : refusal ≡ refusal_of o
  pub lent : after ≡ lent_after o before
