-- `varuna::rounds::first_round` meets its contract. Assumes nothing.
use Rattle.std.proofs.Common.{◌≡◌, refl, ap₂, List, [], ◌∷◌, ℕ, length}
use mathlib.Core.Option.{Option, none}
use lib.Dec.{lit<}
use borrow.Author.Tests.{eqb-true}
use Rattle.domain.specs.BabyBear.{baby_bear}
use Rattle.domain.proofs.Qualification.{baby_bear-qualifies, baby_bear_modulus}
use Rattle.protocol.specs.Circuit.{Circuit, sizes_of}
use Rattle.protocol.specs.Messages.{MessageLengths, lengths}
use Rattle.protocol.specs.Refusals.{Refusal}
use Rattle.protocol.specs.Calls.{ProverInput, circuit_of, round_refusal, first_round_call}
use Rattle.circuit.specs.Given.{input_words}
use Rattle.varuna.proofs.CallRounds.{InputFits, input_fits, judged_by, known-prime}
use Rattle.prover.specs.CallGiven.{assignment_in}
use Rattle.prover.proofs.CallLaws.{assignment_on-C}
use Rattle.circuit.proofs.Fitting.{R-fits, C-fits, X-fits, X-below, shares}
use Rattle.varuna.proofs.AnswerLaws.{fill_refuses, fill_done}
use Rattle.varuna.proofs.rounds.first_round.Goals as goal
use Rattle.varuna.proofs.rounds.first_round.Goals.{Start}

-- what the call is given, the lengths of its lent slices, those that they must have, its challenge words and its points
module _ (s : Start) where
  abbrev input : ProverInput
  input = input_words s.args.input.now

  abbrev lent : List ℕ
  lent = length s.args.witness.now ∷ length s.args.row_quotient.now ∷ []

  abbrev due : MessageLengths → List ℕ
  due l = l.witness ∷ l.row_quotient ∷ []

  abbrev table : MessageLengths
  table = lengths (sizes_of (circuit_of input.circuit))

  abbrev challenges : List ℕ
  challenges = []

  abbrev points : List ℕ
  points = []

  judged : {o : Option Refusal} {l : MessageLengths} → l ≡ table → o ≡ round_refusal baby_bear input lent (due l) challenges points
      → o ≡ round_refusal baby_bear input lent (due table) challenges points
  judged same says = judged_by input lent challenges points due same says

  fits : none ≡ round_refusal baby_bear input lent (due table) challenges points → InputFits input lent (due table) challenges points
  fits free = input_fits input lent (due table) challenges points free

pub witness_into-requires : goal.witness_into-requires
unfolding lengths sizes_of circuit_of
witness_into-requires c =
    let s = (goal.at.witness_into-requires c).Start in
    let F = fits s (judged s c.lengths_of-due.ensures (c.in_ok-judge_round.ensures baby_bear baby_bear-qualifies refl)) in
    record {
      lt_p = lit< tt;
      c_value = (C-fits F.fits, X-fits F.fits, X-below F.fits);
      z_len = (F.fits.z-length, eqb-true _ _ F.lent_fit.0);
    }

pub row_quotient_into-requires : goal.row_quotient_into-requires
unfolding lengths sizes_of circuit_of
row_quotient_into-requires c =
    let s = (goal.at.row_quotient_into-requires c).Start in
    let F = fits s (judged s c.lengths_of-due.ensures (c.in_ok-judge_round.ensures baby_bear baby_bear-qualifies refl)) in
    record {
      modulus = baby_bear_modulus;
      r_value = R-fits F.fits;
      out_len = eqb-true _ _ F.lent_fit.1.0;
      all = ((shares F.fits).in_a, (shares F.fits).in_b);
    }

pub returns-in_err-judge_round : goal.returns-in_err-judge_round
unfolding first_round_call circuit_of
returns-in_err-judge_round c =
    let s = (goal.at.returns-in_err-judge_round c).Start in
    fill_refuses _ _ _ c.from_residual.ensures.1 (judged s c.lengths_of-due.ensures (c.in_err-judge_round.ensures baby_bear baby_bear-qualifies refl)) _

pub returns : goal.returns
unfolding first_round_call circuit_of
returns c =
    let s = (goal.at.returns c).Start in
    let free = judged s c.lengths_of-due.ensures (c.in_ok-judge_round.ensures baby_bear baby_bear-qualifies refl) in
    let F = fits s free in
    let k : Circuit = circuit_of (input s).circuit in
    fill_done _ free
    (ap₂ (λ (l m : List ℕ). (l, m))
    (c.witness_into.ensures baby_bear known-prime k refl refl)
    (c.row_quotient_into.ensures baby_bear known-prime baby_bear-qualifies k F.fits.well_formed refl refl refl
    (assignment_in baby_bear (input s))
    (assignment_on-C F.fits refl baby_bear-qualifies c.args.input.now.mask)))
