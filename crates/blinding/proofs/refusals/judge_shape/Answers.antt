-- `blinding::refusals::judge_shape` meets its contract. Assumes nothing.
use mathlib.Core.List.{[], ◌∷◌, ◌++◌}
use mathlib.Core.Option.{Option}
use lib.Dec.{eqb}
use lib.ListN.{length}
use Rattle.protocol.specs.Refusals.{Refusal, list_refusal}
use Rattle.protocol.specs.Blinded.{roomy_list_tests}
use Rattle.circuit.specs.Given.{circuit_words}
use Rattle.blinding.specs.Judgement.{shape_refusal}
use Rattle.shared.proofs.EarlyReturns.{stops, goes_on, last_answer_lem}
use Rattle.blinding.proofs.refusals.judge_shape.Goals as goal
use Rattle.blinding.proofs.refusals.judge_shape.Goals.{Start}

-- the row after the sizes
abbrev lists : Start → Option Refusal
lists s =
    let a = s.args in
    list_refusal (roomy_list_tests (circuit_words a.circuit.now) ++ (eqb (length a.z.now) a.circuit.now.c ∷ []))

pub returns-in_err-check_sizes : goal.returns-in_err-check_sizes
unfolding shape_refusal
returns-in_err-check_sizes c =
    let s = (goal.at.returns-in_err-check_sizes c).Start in
    stops _ _ c.from_residual.ensures.1 c.in_err-check_sizes.ensures (lists s ∷ [])

pub returns : goal.returns
unfolding shape_refusal list_refusal roomy_list_tests
returns c =
    let s = (goal.at.returns c).Start in
    goes_on c.in_ok-check_sizes.ensures (lists s ∷ []) (last_answer_lem c.check_lists.ensures)
