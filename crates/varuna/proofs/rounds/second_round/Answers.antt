-- `varuna::rounds::second_round` meets its contract. Assumes nothing.
use Rattle.std.proofs.Common.{◌≡◌, refl, List, [], ◌∷◌, ℕ}
use mathlib.Core.Option.{none}
use lib.Dec.{lit<}
use Rattle.field.specs.Element.{Elem, of}
use Rattle.domain.specs.BabyBear.{baby_bear}
use Rattle.domain.proofs.Qualification.{baby_bear-qualifies}
use Rattle.protocol.specs.Three.{map_three}
use Rattle.protocol.specs.Circuit.{Circuit}
use Rattle.protocol.specs.Messages.{sums}
use Rattle.protocol.specs.Calls.{ProverInput, circuit_of, round_refusal, second_round_call}
use Rattle.circuit.specs.Given.{input_words}
use Rattle.prover.specs.CallGiven.{assignment_in}
use Rattle.prover.proofs.CallLaws.{assignment_on-C}
use Rattle.circuit.proofs.Fitting.{R-fits, shares}
use Rattle.varuna.proofs.AnswerLaws.{refuses, done}
use Rattle.varuna.proofs.CallRounds.{InputFits, input_fits, known-prime}
use Rattle.varuna.proofs.rounds.second_round.Goals as goal
use Rattle.varuna.proofs.rounds.second_round.Goals.{Start}

-- what the call is given, the lengths of its lent slices, those that they must have, its challenge words and its points
module _ (s : Start) where
  abbrev input : ProverInput
  input = input_words s.args.input.now

  abbrev lent : List ℕ
  lent = []

  abbrev challenges : List ℕ
  challenges = s.args.alpha ∷ []

  abbrev points : List ℕ
  points = s.args.alpha ∷ []

  fits : none ≡ round_refusal baby_bear input lent ([]) challenges points → InputFits input lent ([]) challenges points
  fits free = input_fits input lent ([]) challenges points free

pub sums_at-requires : goal.sums_at-requires
sums_at-requires c =
    let s = (goal.at.sums_at-requires c).Start in
    let F = fits s (c.in_ok-judge_round.ensures baby_bear baby_bear-qualifies refl) in
    record { lt_p = lit< tt; r_value = R-fits F.fits; each_within = shares F.fits }

pub returns-in_err-judge_round : goal.returns-in_err-judge_round
unfolding second_round_call
returns-in_err-judge_round c = refuses _ _ _ c.from_residual.ensures.1 (c.in_err-judge_round.ensures baby_bear baby_bear-qualifies refl) _

pub returns : goal.returns
unfolding second_round_call circuit_of
returns c =
    let s = (goal.at.returns c).Start in
    let free = c.in_ok-judge_round.ensures baby_bear baby_bear-qualifies refl in
    let F = fits s free in
    let k : Circuit = circuit_of (input s).circuit in
    let assigned = assignment_in baby_bear (input s) in
    done (map_three (λ (e : Elem baby_bear). e.word) (sums k assigned (of c.args.alpha))) free
    (c.sums_at.ensures baby_bear known-prime baby_bear-qualifies k F.fits.well_formed refl refl assigned
    (assignment_on-C F.fits refl baby_bear-qualifies c.args.input.now.mask))
