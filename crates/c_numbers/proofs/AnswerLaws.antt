-- What is handed over by the outcome of a call that fills lent slices, from what is handed over by its answer. Assumes nothing.
use Rattle.std.proofs.Common.{◌≡◌, refl, ap, ◌∙◌}
use Rattle.std.specs.Prelude.{List, ℕ}
use Rattle.protocol.specs.Three.{Three}
use Rattle.protocol.specs.Refusals.{Outcome, Done, Refused}
use Rattle.varuna.specs.Answers.{Filling, filling, fills, fills_three}
use Rattle.c_numbers.specs.Answers.{Answered, told, answered, three_listed, three_listed_with}

-- slices with the number and the position alone
abbrev slices_alone : {S : Type 0} → S → Answered (Unit {0}) → Answered S
slices_alone slices a = told a.number a.position slices

-- slices beside what is handed over
abbrev with_slices : {S T : Type 0} → Answered T → S → Answered (T × S)
with_slices a slices = told a.number a.position (a.result, slices)

module _ {S : Type 0} (before : S) where
  abbrev filled : Filling (Unit {0}) S → Answered S
  filled e = slices_alone e.slice (answered e.answer tt)

  filled_fills : (o : Outcome S) → filled (fills o before) ≡ answered o before
  filled_fills (Done result) = refl
  filled_fills (Refused r) = refl

  pub filled_told : (o : Outcome S) {a : Answered (Unit {0})} {answer : Outcome (Unit {0})} {after : S} → a ≡ answered answer tt
      → filling answer after ≡ fills o before → slices_alone after a ≡ answered o before
  filled_told o {a} {answer} {after} given same =
      ap (slices_alone after) given ∙ ap filled same ∙ filled_fills o

  -- with one word for each matrix
  module _ (words : List ℕ) where
    abbrev three_filled : Filling (Three ℕ) S → Answered (List ℕ × S)
    three_filled e = with_slices (answered (three_listed e.answer) words) e.slice

    three_filled_fills : (o : Outcome (Three ℕ × S)) → three_filled (fills_three o before) ≡ answered (three_listed_with o) (words, before)
    three_filled_fills (Done result) = refl
    three_filled_fills (Refused r) = refl

    pub three_filled_told : (o : Outcome (Three ℕ × S)) {a : Answered (List ℕ)} {answer : Outcome (Three ℕ)} {after : S}
        → a ≡ answered (three_listed answer) words → filling answer after ≡ fills_three o before
        → with_slices a after ≡ answered (three_listed_with o) (words, before)
    three_filled_told o {a} {answer} {after} given same =
        ap (λ (a : Answered (List ℕ)). with_slices a after) given ∙ ap three_filled same ∙ three_filled_fills o
