-- `call_refusals::judge_shape` meets its contract. Assumes nothing.
use Rattle.std.proofs.Common.{sym, ◌∙◌, List, [], ◌∷◌}
use mathlib.Core.Option.{Option}
use Rattle.protocol.specs.Refusals.{Refusal, refuse}
use Rattle.protocol.specs.Admission.{assignment_tests}
use Rattle.protocol.specs.Calls.{CircuitWords, circuit_of}
use Rattle.circuit.specs.Given.{circuit_words}
use Rattle.shared.proofs.EarlyReturns.{stops, goes_on, last_answer_lem}
use Rattle.circuit.proofs.Parts.{shape_in_parts}
use Rattle.call_refusals.proofs.judge_shape.Goals as goal
use Rattle.call_refusals.proofs.judge_shape.Goals.{Start}

abbrev circuit : Start → CircuitWords
circuit s = circuit_words s.args.input.now.circuit

abbrev after-circuit : Start → List (Option Refusal)
after-circuit s = refuse 5 3 (assignment_tests (circuit_of (circuit s)) s.args.input.now.z.now s.args.input.now.m.now) ∷ []

pub returns-in_err-judge_index_shape : goal.returns-in_err-judge_index_shape
returns-in_err-judge_index_shape c =
    let s = (goal.at.returns-in_err-judge_index_shape c).Start in
    stops _ _ c.from_residual.ensures.1 c.in_err-judge_index_shape.ensures (after-circuit s)
    ∙ sym (shape_in_parts (circuit s) s.args.input.now.z.now s.args.input.now.m.now)

pub returns : goal.returns
unfolding assignment_tests circuit_of
returns c =
    let s = (goal.at.returns c).Start in
    goes_on c.in_ok-judge_index_shape.ensures (after-circuit s) (last_answer_lem c.check_assignment_lists.ensures)
    ∙ sym (shape_in_parts (circuit s) s.args.input.now.z.now s.args.input.now.m.now)
