-- `varuna::rounds::third_round` meets its contract. Assumes nothing.
use Rattle.std.proofs.Common.{◌≡◌, refl, ap₂, List, [], ◌∷◌, ℕ, length}
use mathlib.Core.Option.{Option, none}
use borrow.Author.Tests.{eqb-true}
use Rattle.domain.specs.BabyBear.{baby_bear}
use Rattle.domain.proofs.Qualification.{baby_bear-qualifies, baby_bear_modulus}
use Rattle.protocol.specs.Circuit.{sizes_of}
use Rattle.protocol.specs.Messages.{MessageLengths, lengths}
use Rattle.protocol.specs.Refusals.{Refusal}
use Rattle.protocol.specs.Calls.{ProverInput, circuit_of, round_refusal, third_round_call}
use Rattle.circuit.specs.Given.{input_words}
use Rattle.varuna.proofs.CallRounds.{InputFits, input_fits, judged_by, known-prime}
use Rattle.varuna.proofs.AnswerLaws.{fill_refuses, fill_done}
use Rattle.varuna.proofs.rounds.third_round.Goals as goal
use Rattle.varuna.proofs.rounds.third_round.Goals.{Start}

-- what the call is given, the lengths of its lent slices, those that they must have, its challenge words and its points
module _ (s : Start) where
  abbrev input : ProverInput
  input = input_words s.args.input.now

  abbrev lent : List ℕ
  lent = length s.args.remainder.now ∷ length s.args.quotient.now ∷ []

  abbrev due : MessageLengths → List ℕ
  due l = l.line_remainder ∷ l.line_quotient ∷ []

  abbrev table : MessageLengths
  table = lengths (sizes_of (circuit_of input.circuit))

  abbrev challenges : List ℕ
  challenges = s.args.alpha ∷ s.args.eta.a ∷ s.args.eta.b ∷ s.args.eta.c ∷ []

  abbrev points : List ℕ
  points = s.args.alpha ∷ []

  judged : {o : Option Refusal} {l : MessageLengths} → l ≡ table → o ≡ round_refusal baby_bear input lent (due l) challenges points
      → o ≡ round_refusal baby_bear input lent (due table) challenges points
  judged same says = judged_by input lent challenges points due same says

  fits : none ≡ round_refusal baby_bear input lent (due table) challenges points → InputFits input lent (due table) challenges points
  fits free = input_fits input lent (due table) challenges points free

pub line_into-requires : goal.line_into-requires
unfolding lengths sizes_of circuit_of
line_into-requires c =
    let s = (goal.at.line_into-requires c).Start in
    let F = fits s (judged s c.lengths_of-due.ensures (c.in_ok-judge_round.ensures baby_bear baby_bear-qualifies refl)) in
    record {
      modulus = baby_bear_modulus;
      fits = F.fits;
      remainder_len = (eqb-true _ _ F.lent_fit.0, eqb-true _ _ F.lent_fit.1.0);
    }

pub returns-in_err-judge_round : goal.returns-in_err-judge_round
unfolding third_round_call lengths sizes_of circuit_of
returns-in_err-judge_round c =
    let s = (goal.at.returns-in_err-judge_round c).Start in
    fill_refuses _ _ _ c.from_residual.ensures.1 (judged s c.lengths_of-due.ensures (c.in_err-judge_round.ensures baby_bear baby_bear-qualifies refl)) _

pub returns : goal.returns
unfolding third_round_call lengths sizes_of circuit_of
returns c =
    let s = (goal.at.returns c).Start in
    let made = c.line_into.ensures baby_bear known-prime baby_bear-qualifies in
    fill_done _ (judged s c.lengths_of-due.ensures (c.in_ok-judge_round.ensures baby_bear baby_bear-qualifies refl)) (ap₂ (λ (l m : List ℕ). (l, m)) made.0 made.1)
