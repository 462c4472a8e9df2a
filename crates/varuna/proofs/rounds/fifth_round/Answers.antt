-- `varuna::rounds::fifth_round` meets its contract. Assumes nothing.
use Rattle.std.proofs.Common.{◌≡◌, refl, List, [], ◌∷◌, ℕ, length}
use mathlib.Core.Option.{Option, none}
use Rattle.domain.specs.BabyBear.{baby_bear}
use Rattle.domain.proofs.Qualification.{baby_bear-qualifies, baby_bear_modulus}
use Rattle.protocol.specs.Circuit.{Circuit, sizes_of, largest}
use Rattle.protocol.specs.Messages.{MessageLengths, lengths}
use Rattle.protocol.specs.Refusals.{Refusal}
use Rattle.protocol.specs.Calls.{ProverInput, circuit_of, round_refusal, fifth_round_call}
use Rattle.circuit.specs.Given.{input_words}
use Rattle.varuna.proofs.CallRounds.{InputFits, input_fits, judged_by, known-prime, one_below-largest}
use Rattle.circuit.proofs.Fitting.{shaped}
use Rattle.matrix_sumcheck.proofs.GivenLaws.{challenged, matrix-given}
use Rattle.varuna.proofs.AnswerLaws.{fill_refuses, fill_done}
use Rattle.varuna.proofs.rounds.fifth_round.Goals as goal
use Rattle.varuna.proofs.rounds.fifth_round.Goals.{Start}

-- what the call is given, the lengths of its lent slices, those that they must have, its challenge words and its points
module _ (s : Start) where
  abbrev input : ProverInput
  input = input_words s.args.input.now

  abbrev lent : List ℕ
  lent = length s.args.out.now ∷ []

  abbrev due : MessageLengths → List ℕ
  due l = l.joined_quotient ∷ []

  abbrev table : MessageLengths
  table = lengths (sizes_of (circuit_of input.circuit))

  abbrev challenges : List ℕ
  challenges =
      let a = s.args in
      a.alpha ∷ a.eta.a ∷ a.eta.b ∷ a.eta.c ∷ a.beta ∷ a.delta.a ∷ a.delta.b ∷ a.delta.c ∷ []

  abbrev points : List ℕ
  points = s.args.alpha ∷ s.args.beta ∷ []

  judged : {o : Option Refusal} {l : MessageLengths} → l ≡ table → o ≡ round_refusal baby_bear input lent (due l) challenges points
      → o ≡ round_refusal baby_bear input lent (due table) challenges points
  judged same says = judged_by input lent challenges points due same says

  fits : none ≡ round_refusal baby_bear input lent (due table) challenges points → InputFits input lent (due table) challenges points
  fits free = input_fits input lent (due table) challenges points free

pub joined_quotient_into-requires : goal.joined_quotient_into-requires
unfolding lengths sizes_of circuit_of largest
joined_quotient_into-requires c =
    let s = (goal.at.joined_quotient_into-requires c).Start in
    let F = fits s (judged s c.lengths_of.ensures (c.in_ok-judge_round.ensures baby_bear baby_bear-qualifies refl)) in
    record {
      modulus = baby_bear_modulus;
      circuit_shaped = shaped F.fits;
      each_within = F.fits.within;
      out_len = one_below-largest _ _ _ _ F.lent_fit.0;
    }

pub returns-in_err-judge_round : goal.returns-in_err-judge_round
unfolding fifth_round_call lengths sizes_of circuit_of largest
returns-in_err-judge_round c =
    let s = (goal.at.returns-in_err-judge_round c).Start in
    fill_refuses _ _ _ c.from_residual.ensures.1 (judged s c.lengths_of.ensures (c.in_err-judge_round.ensures baby_bear baby_bear-qualifies refl)) _

pub returns : goal.returns
unfolding fifth_round_call lengths sizes_of circuit_of largest
returns c =
    let s = (goal.at.returns c).Start in
    let a = c.args in
    let i = a.input.now.circuit in
    let free = judged s c.lengths_of.ensures (c.in_ok-judge_round.ensures baby_bear baby_bear-qualifies refl) in
    let F = fits s free in
    let k : Circuit = circuit_of (input s).circuit in
    fill_done a.out.now free
    (c.joined_quotient_into.ensures baby_bear k
    (matrix-given known-prime baby_bear-qualifies i.r i.c i.x i.matrices.a.now i.matrices.b.now i.matrices.c.now)
    (challenged F.fits a.alpha a.beta [] F.outside))
