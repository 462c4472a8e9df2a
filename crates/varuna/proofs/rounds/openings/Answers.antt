-- `varuna::rounds::openings` meets its contract. Assumes nothing.
use Rattle.std.proofs.Common.{◌≡◌, refl, List, [], ◌∷◌, ℕ}
use mathlib.Core.Option.{none}
use lib.Dec.{lit<}
use Rattle.domain.specs.BabyBear.{baby_bear}
use Rattle.domain.proofs.Qualification.{baby_bear-qualifies, baby_bear-known}
use Rattle.protocol.specs.Calls.{ProverInput, round_refusal, openings_call}
use Rattle.circuit.specs.Given.{input_words}
use Rattle.openings.proofs.OutsideLaws.{points_outside}
use Rattle.varuna.proofs.AnswerLaws.{refuses, done}
use Rattle.varuna.proofs.CallRounds.{InputFits, input_fits, known-prime}
use Rattle.varuna.proofs.rounds.openings.Goals as goal
use Rattle.varuna.proofs.rounds.openings.Goals.{Start}

-- what the call is given, the lengths of its lent slices, those that they must have, its challenge words and its points
module _ (s : Start) where
  abbrev input : ProverInput
  input = input_words s.args.input.now

  abbrev lent : List ℕ
  lent = []

  abbrev challenges : List ℕ
  challenges =
      let a = s.args.challenges.now in
      a.alpha ∷ a.eta.a ∷ a.eta.b ∷ a.eta.c ∷ a.beta ∷ a.delta.a ∷ a.delta.b ∷ a.delta.c ∷ a.gamma ∷ []

  abbrev points : List ℕ
  points = s.args.challenges.now.alpha ∷ s.args.challenges.now.beta ∷ s.args.challenges.now.gamma ∷ []

  fits : none ≡ round_refusal baby_bear input lent ([]) challenges points → InputFits input lent ([]) challenges points
  fits free = input_fits input lent ([]) challenges points free

pub open_all-requires : goal.open_all-requires
open_all-requires c =
    let s = (goal.at.open_all-requires c).Start in
    let h = c.args.challenges.now in
    let F = fits s (c.in_ok-judge_round.ensures baby_bear baby_bear-qualifies refl) in
    record {
      lt_p = lit< tt;
      fits = F.fits;
      points_outside = points_outside baby_bear-known h.alpha h.beta h.gamma F.outside;
    }

pub returns-in_err-judge_round : goal.returns-in_err-judge_round
unfolding openings_call
returns-in_err-judge_round c = refuses _ _ _ c.from_residual.ensures.1 (c.in_err-judge_round.ensures baby_bear baby_bear-qualifies refl) _

pub returns : goal.returns
unfolding openings_call
returns c = done _ (c.in_ok-judge_round.ensures baby_bear baby_bear-qualifies refl) (c.open_all.ensures baby_bear known-prime)
