-- `varuna::rounds::fourth_round` meets its contract. Assumes nothing.
use Rattle.std.proofs.Common.{◌≡◌, refl, List, [], ◌∷◌, ℕ, length}
use mathlib.Core.Option.{Option, none}
use lib.Dec.{lit<}
use Rattle.domain.specs.BabyBear.{baby_bear}
use Rattle.domain.proofs.Qualification.{baby_bear-qualifies}
use Rattle.protocol.specs.Circuit.{Circuit, sizes_of}
use Rattle.protocol.specs.Messages.{MessageLengths, lengths}
use Rattle.protocol.specs.Refusals.{Refusal}
use Rattle.protocol.specs.Calls.{ProverInput, circuit_of, round_refusal, fourth_round_call}
use Rattle.circuit.specs.Given.{input_words}
use Rattle.varuna.proofs.CallRounds.{InputFits, input_fits, judged_by, known-prime, one_below}
use Rattle.field.specs.Element.{of, words}
use Rattle.protocol.specs.Three.{each}
use Rattle.protocol.specs.Messages.{matrix_remainder}
use Rattle.varuna.specs.Inputs.{three_of}
use Rattle.circuit.proofs.Fitting.{shaped}
use Rattle.matrix_sumcheck.proofs.GivenLaws.{challenged, matrix-given}
use Rattle.varuna.proofs.AnswerLaws.{fill_three-refuses, fill_three-done, three_same}
use Rattle.varuna.proofs.rounds.fourth_round.Goals as goal
use Rattle.varuna.proofs.rounds.fourth_round.Goals.{Start}

-- what the call is given, the lengths of its lent slices, those that they must have, its challenge words and its points
module _ (s : Start) where
  abbrev input : ProverInput
  input = input_words s.args.input.now

  abbrev lent : List ℕ
  lent = length s.args.ga.now ∷ length s.args.gb.now ∷ length s.args.gc.now ∷ []

  abbrev due : MessageLengths → List ℕ
  due l = l.matrix_remainders.a ∷ l.matrix_remainders.b ∷ l.matrix_remainders.c ∷ []

  abbrev table : MessageLengths
  table = lengths (sizes_of (circuit_of input.circuit))

  abbrev challenges : List ℕ
  challenges = s.args.alpha ∷ s.args.eta.a ∷ s.args.eta.b ∷ s.args.eta.c ∷ s.args.beta ∷ []

  abbrev points : List ℕ
  points = s.args.alpha ∷ s.args.beta ∷ []

  judged : {o : Option Refusal} {l : MessageLengths} → l ≡ table → o ≡ round_refusal baby_bear input lent (due l) challenges points
      → o ≡ round_refusal baby_bear input lent (due table) challenges points
  judged same says = judged_by input lent challenges points due same says

  fits : none ≡ round_refusal baby_bear input lent (due table) challenges points → InputFits input lent (due table) challenges points
  fits free = input_fits input lent (due table) challenges points free

pub values_into-requires : goal.values_into-requires
unfolding lengths sizes_of circuit_of
values_into-requires c =
    let s = (goal.at.values_into-requires c).Start in
    let F = fits s (judged s c.lengths_of.ensures (c.in_ok-judge_round.ensures baby_bear baby_bear-qualifies refl)) in
    record {
      lt_p = lit< tt;
      circuit_shaped = shaped F.fits;
      each_within = F.fits.within;
      ga_len = one_below _ _ F.lent_fit.0;
      gb_len = one_below _ _ F.lent_fit.1.0;
      gc_len = one_below _ _ F.lent_fit.1.1.0;
    }

pub returns-in_err-judge_round : goal.returns-in_err-judge_round
unfolding fourth_round_call lengths sizes_of circuit_of
returns-in_err-judge_round c =
    let s = (goal.at.returns-in_err-judge_round c).Start in
    fill_three-refuses _ _ _ c.from_residual.ensures.1 (judged s c.lengths_of.ensures (c.in_err-judge_round.ensures baby_bear baby_bear-qualifies refl)) _

pub returns : goal.returns
unfolding fourth_round_call lengths sizes_of circuit_of
returns c =
    let s = (goal.at.returns c).Start in
    let a = c.args in
    let i = a.input.now.circuit in
    let free = judged s c.lengths_of.ensures (c.in_ok-judge_round.ensures baby_bear baby_bear-qualifies refl) in
    let F = fits s free in
    let k : Circuit = circuit_of (input s).circuit in
    let made =
    c.values_into.ensures baby_bear k
    (matrix-given known-prime baby_bear-qualifies i.r i.c i.x i.matrices.a.now i.matrices.b.now i.matrices.c.now)
    (challenged F.fits a.alpha a.beta [] F.outside) in
    fill_three-done (three_of a.ga.now a.gb.now a.gc.now) free made.are_values
    (three_same (each (λ M. words (matrix_remainder {q = baby_bear} k (of a.alpha) (of a.beta) M)))
    made.remainder-a made.remainder-b made.remainder-c)
