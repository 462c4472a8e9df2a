-- `circuit::checks::check_three_values` meets its contract: A, then B, then C. Assumes nothing.
use Rattle.std.proofs.Common.{◌≡◌, refl, sym, ◌∙◌, List, [], ◌∷◌, map, ◌+◌, ◌/◌, ltb, length, ℕ, Bor}
use Rattle.shared.specs.declared.Three.{Three}
use mathlib.Core.Option.{Option}
use Rattle.protocol.specs.Circuit.{Circuit}
use Rattle.protocol.specs.Refusals.{Refusal, first, refuse}
use Rattle.protocol.specs.Admission.{entry_values}
use Rattle.circuit.specs.Given.{lists_in}
use Rattle.shared.proofs.EarlyReturns.{stops, goes_on, last_answer_lem}
use Rattle.circuit.proofs.Parts.{value_tests, values_in_parts}
use Rattle.circuit.proofs.checks.check_three_values.Goals as goal
use Rattle.circuit.proofs.checks.check_three_values.Goals.{Start}

-- the parts after B, and after A; all of them are what is to be answered of a circuit with these matrices
module _ (s : Start) where
  abbrev lists : Three (Bor (List ℕ))
  lists = s.args.circuit.now.matrices

  abbrev after-b : List (Option Refusal)
  after-b = refuse 6 (length lists.a.now / 3 + length lists.b.now / 3) (value_tests s.args.p lists.c.now) ∷ []

  abbrev after-a : List (Option Refusal)
  after-a = refuse 6 (length lists.a.now / 3) (value_tests s.args.p lists.b.now) ∷ after-b

  in_parts : (k : Circuit) → k.matrices ≡ lists_in s.args.circuit.now
      → first (refuse 6 0 (value_tests s.args.p lists.a.now) ∷ after-a) ≡ refuse 6 0 (map (λ w. ltb w s.args.p) (entry_values k))
  in_parts k matrices = sym (values_in_parts k lists.a.now lists.b.now lists.c.now matrices s.args.p _ _ refl refl)

pub returns-in_err-check_values : goal.returns-in_err-check_values
returns-in_err-check_values c k matrices =
    let s = (goal.at.returns-in_err-check_values c).Start in
    stops _ _ c.from_residual.ensures.1 c.in_err-check_values.ensures (after-a s) ∙ in_parts s k matrices

pub returns-in_err-check_values-2 : goal.returns-in_err-check_values-2
returns-in_err-check_values-2 c k matrices =
    let s = (goal.at.returns-in_err-check_values-2 c).Start in
    goes_on c.in_ok-check_values.ensures (after-a s)
    (stops _ _ c.from_residual-in_err-check_values-2.ensures.1 c.in_err-check_values-2.ensures (after-b s))
    ∙ in_parts s k matrices

pub returns : goal.returns
returns c k matrices =
    let s = (goal.at.returns c).Start in
    goes_on c.in_ok-check_values.ensures (after-a s)
    (goes_on c.in_ok-check_values-2.ensures (after-b s) (last_answer_lem c.check_values-3.ensures))
    ∙ in_parts s k matrices
