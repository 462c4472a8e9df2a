-- `call_refusals::judge_round` meets its contract. Assumes nothing.
use mathlib.Core.Path.{◌≡◌, refl, sym, ◌∙◌}
use mathlib.Core.List.{List, [], ◌∷◌}
use mathlib.Core.Option.{Option}
use lib.Dec.{eqb}
use Rattle.field.specs.Prime.{Prime}
use Rattle.protocol.specs.Refusals.{Refusal, first, refuse, pairs}
use Rattle.protocol.specs.Calls.{CircuitWords, circuit_of, round_refusal}
use Rattle.circuit.specs.Given.{circuit_words, input_words}
use Rattle.circuit.specs.Judgement.{shape_refusal, contents_refusal}
use Rattle.shared.proofs.EarlyReturns.{stops, goes_on, last_answer_lem}
use Rattle.circuit.proofs.Parts.{prover_in_parts, shape_fits}
use Rattle.call_refusals.proofs.judge_round.Goals as goal
use Rattle.call_refusals.proofs.judge_round.Goals.{Start}

-- the circuit that the call is given, and what is to be answered: the shape, the lent slices, the contents
abbrev circuit : Start → CircuitWords
circuit s = circuit_words s.args.input.now.circuit

abbrev shape : Start → Option Refusal
shape s = shape_refusal (circuit s) s.args.input.now.z.now s.args.input.now.m.now

module _ (q : Prime) (s : Start) where
  abbrev contents : Option Refusal
  contents =
      let a = s.args in
      contents_refusal q (circuit_of (circuit s)) a.input.now.z.now a.input.now.mask a.input.now.m.now a.challenges.now a.points.now

  abbrev after_shape : List (Option Refusal)
  after_shape = refuse 5 5 (pairs eqb s.args.lent.now s.args.due.now) ∷ contents ∷ []

  abbrev due : Option Refusal
  due =
      let a = s.args in
      round_refusal q (input_words a.input.now)
      a.lent.now a.due.now a.challenges.now a.points.now

  in_parts : first (shape s ∷ after_shape) ≡ due
  unfolding round_refusal
  in_parts =
      let a = s.args in
      sym (prover_in_parts q (circuit s) (pairs eqb a.lent.now a.due.now) a.input.now.z.now a.input.now.mask a.input.now.m.now a.challenges.now a.points.now)

pub returns-in_err-judge_shape : goal.returns-in_err-judge_shape
returns-in_err-judge_shape c q Q e =
    let s = (goal.at.returns-in_err-judge_shape c).Start in
    stops _ _ c.from_residual.ensures.1 c.in_err-judge_shape.ensures (after_shape q s) ∙ in_parts q s

pub returns-in_err-check_lent : goal.returns-in_err-check_lent
returns-in_err-check_lent c q Q e =
    let s = (goal.at.returns-in_err-check_lent c).Start in
    goes_on c.in_ok-judge_shape.ensures (after_shape q s)
    (stops _ _ c.from_residual-in_err-check_lent.ensures.1 c.in_err-check_lent.ensures (contents q s ∷ []))
    ∙ in_parts q s

pub judge_contents-requires : goal.judge_contents-requires
judge_contents-requires c =
    let i = c.args.input.now in
    let k = i.circuit in
    record {
      lt_p = c.requires.lt_p;
      shaped = shape_fits k.r k.c k.x k.matrices.a.now k.matrices.b.now k.matrices.c.now i.z.now i.m.now (sym c.in_ok-judge_shape.ensures);
      points_len_bound = c.requires.points_len_bound;
    }

pub returns : goal.returns
unfolding circuit_of
returns c q Q e =
    let s = (goal.at.returns c).Start in
    goes_on c.in_ok-judge_shape.ensures (after_shape q s)
    (goes_on c.in_ok-check_lent.ensures (contents q s ∷ [])
    (last_answer_lem {o = contents q s} (c.judge_contents.ensures q Q e (circuit_of (circuit s)) refl refl refl)))
    ∙ in_parts q s
