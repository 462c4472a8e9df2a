-- `call_refusals::judge_circuit` meets its contract: the shape, then the contents, as in an indexer's call that lends nothing.
-- Assumes nothing.
use Rattle.std.proofs.Common.{refl, sym, ◌∙◌, List, [], ◌∷◌}
use mathlib.Core.Option.{Option}
use Rattle.field.specs.Prime.{Prime}
use Rattle.protocol.specs.Refusals.{Refusal}
use Rattle.protocol.specs.Calls.{CircuitWords, circuit_of}
use Rattle.circuit.specs.Given.{circuit_words}
use Rattle.circuit.specs.Judgement.{index_contents_refusal}
use Rattle.shared.proofs.EarlyReturns.{stops, goes_on, last_answer_lem}
use Rattle.circuit.proofs.Parts.{circuit_in_parts, index_shape_fits}
use Rattle.call_refusals.proofs.judge_circuit.Goals as goal
use Rattle.call_refusals.proofs.judge_circuit.Goals.{Start}

abbrev circuit : Start → CircuitWords
circuit s = circuit_words s.args.circuit.now

abbrev contents : Prime → Start → List (Option Refusal)
contents q s = index_contents_refusal q (circuit_of (circuit s)) ∷ []

pub returns-in_err-judge_index_shape : goal.returns-in_err-judge_index_shape
returns-in_err-judge_index_shape c q e =
    let s = (goal.at.returns-in_err-judge_index_shape c).Start in
    stops _ _ c.from_residual.ensures.1 c.in_err-judge_index_shape.ensures (contents q s) ∙ sym (circuit_in_parts q (circuit s))

pub judge_index_contents-requires : goal.judge_index_contents-requires
judge_index_contents-requires c =
    let k = c.args.circuit.now in
    (index_shape_fits k.r k.c k.x k.matrices.a.now k.matrices.b.now k.matrices.c.now (sym c.in_ok-judge_index_shape.ensures)).lists

pub returns : goal.returns
unfolding circuit_of
returns c q e =
    let s = (goal.at.returns c).Start in
    goes_on c.in_ok-judge_index_shape.ensures (contents q s)
    (last_answer_lem (c.judge_index_contents.ensures q e (circuit_of (circuit s)) refl refl refl))
    ∙ sym (circuit_in_parts q (circuit s))
