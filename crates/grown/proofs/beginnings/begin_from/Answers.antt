-- `grown::beginnings::begin_from` meets its contract: the circuit is judged, then stored; what is let through has rows below 1,024.
-- Assumes nothing.
use Rattle.std.proofs.Common.{sym}
use Rattle.domain.proofs.SizeLaws.{size_bound}
use Rattle.protocol.specs.Calls.{CircuitWords, entries_of, circuit_of}
use Rattle.protocol.specs.Grown.{stored, begin_from_call}
use Rattle.circuit.specs.Given.{circuit_words}
use Rattle.circuit.specs.Judgement.{circuit_refusal}
use Rattle.circuit.proofs.Fitting.{circuit-fits}
use Rattle.shared.proofs.LentAnswers.{lent_exits, lent-fills}
use Rattle.grown.proofs.BeginningLaws.{rows-below}
use Rattle.grown.proofs.beginnings.begin_from.Goals as goal
use Rattle.grown.proofs.beginnings.begin_from.Goals.{Start}

abbrev circuit : Start → CircuitWords
circuit s = circuit_words s.args.given.now

pub returns-in_err-judge_circuit : goal.returns-in_err-judge_circuit
unfolding begin_from_call circuit_refusal
returns-in_err-judge_circuit c q e =
    let s = (goal.at.returns-in_err-judge_circuit c).Start in
    lent_exits {o = circuit_refusal q (circuit s)} (stored (circuit_of (circuit s))) s.args.circuit.now _ _ c.from_residual.ensures.1
    (c.in_err-judge_circuit.ensures q e)

pub store-requires : goal.store-requires
store-requires c =
    let k = c.args.given.now in
    let q = c.requires.p_value in
    let fits =
    circuit-fits k.r k.c k.x k.matrices.a.now k.matrices.b.now k.matrices.c.now q.0 (sym (c.in_ok-judge_circuit.ensures q.0 q.1)) in
    let bound = size_bound k.r fits.shape.R-size in
    record {
      circuit_len = c.requires.circuit_len;
      three_lists = fits.shape.lists;
      all = rows-below k.r k.c (entries_of k.matrices.a.now) bound fits.within.in_a;
      all_2 = rows-below k.r k.c (entries_of k.matrices.b.now) bound fits.within.in_b;
      all_3 = rows-below k.r k.c (entries_of k.matrices.c.now) bound fits.within.in_c;
    }

pub returns : goal.returns
unfolding begin_from_call circuit_refusal
returns c q e =
    let s = (goal.at.returns c).Start in
    lent-fills {o = circuit_refusal q (circuit s)} (stored (circuit_of (circuit s))) s.args.circuit.now
    (c.in_ok-judge_circuit.ensures q e) c.store.ensures
