-- `blinding::refusals::judge_blind` meets its contract. Assumes nothing.
use mathlib.Core.Path.{◌≡◌, refl, sym, ◌∙◌}
use mathlib.Core.List.{List, [], ◌∷◌, ◌++◌}
use mathlib.Core.Option.{Option}
use lib.Dec.{eqb}
use Rattle.field.specs.Prime.{Prime}
use Rattle.protocol.specs.Refusals.{Refusal, first, refuse, pairs}
use Rattle.protocol.specs.Three.{listed}
use Rattle.protocol.specs.Calls.{CircuitWords, circuit_of}
use Rattle.protocol.specs.Blinded.{blind_refusal}
use Rattle.shared.specs.Meanings.{three}
use Rattle.circuit.specs.Given.{circuit_words}
use Rattle.blinding.specs.Judgement.{shape_refusal, contents_refusal}
use Rattle.shared.proofs.EarlyReturns.{stops, goes_on, last_answer_lem}
use Rattle.blinding.proofs.Parts.{lengths_due, blind_in_parts, shape_fits}
use Rattle.blinding.proofs.refusals.judge_blind.Goals as goal
use Rattle.blinding.proofs.refusals.judge_blind.Goals.{Start}

-- the circuit that the call is given, and what is to be answered: the shape, the lent slices, the contents
abbrev circuit : Start → CircuitWords
circuit s = circuit_words s.args.circuit.now

abbrev shape : Start → Option Refusal
shape s = shape_refusal (circuit s) s.args.z.now

module _ (q : Prime) (s : Start) where
  abbrev contents : Option Refusal
  contents = contents_refusal q (circuit_of (circuit s)) s.args.z.now (three s.args.rho)

  abbrev after_shape : List (Option Refusal)
  after_shape = refuse 5 4 (pairs eqb (listed (three s.args.lent) ++ (s.args.lent_z ∷ [])) (lengths_due (circuit s))) ∷ contents ∷ []

  abbrev due : Option Refusal
  due =
      let a = s.args in
      blind_refusal q (circuit s) a.z.now (three a.rho) (three a.lent) a.lent_z

  in_parts : first (shape s ∷ after_shape) ≡ due
  in_parts =
      let a = s.args in
      sym (blind_in_parts q (circuit s) a.z.now (three a.rho) (three a.lent) a.lent_z)

pub returns-in_err-judge_shape : goal.returns-in_err-judge_shape
returns-in_err-judge_shape c q e =
    let s = (goal.at.returns-in_err-judge_shape c).Start in
    stops _ _ c.from_residual.ensures.1 c.in_err-judge_shape.ensures (after_shape q s) ∙ in_parts q s

pub returns-in_err-check_lent : goal.returns-in_err-check_lent
returns-in_err-check_lent c q e =
    let s = (goal.at.returns-in_err-check_lent c).Start in
    goes_on c.in_ok-judge_shape.ensures (after_shape q s)
    (stops _ _ c.from_residual-in_err-check_lent.ensures.1 c.in_err-check_lent.ensures (contents q s ∷ []))
    ∙ in_parts q s

pub judge_contents-requires : goal.judge_contents-requires
judge_contents-requires c =
    let k = c.args.circuit.now in
    shape_fits k.r k.c k.x k.matrices.a.now k.matrices.b.now k.matrices.c.now c.args.z.now (sym c.in_ok-judge_shape.ensures)

pub returns : goal.returns
unfolding circuit_of
returns c q e =
    let s = (goal.at.returns c).Start in
    goes_on c.in_ok-judge_shape.ensures (after_shape q s)
    (goes_on c.in_ok-check_lent.ensures (contents q s ∷ [])
    (last_answer_lem {o = contents q s} (c.judge_contents.ensures q e (circuit_of (circuit s)) refl refl refl refl)))
    ∙ in_parts q s
