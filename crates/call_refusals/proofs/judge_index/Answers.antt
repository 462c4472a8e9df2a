-- `call_refusals::judge_index` meets its contract. Assumes nothing.
use mathlib.Core.Path.{◌≡◌, refl, sym, ap, ◌∙◌}
use mathlib.Core.Bool.{Bool}
use mathlib.Core.List.{List, [], ◌∷◌}
use mathlib.Core.Option.{Option}
use Prim.Native.Nat.{ℕ}
use lib.Dec.{eqb}
use Rattle.field.specs.Prime.{Prime}
use Rattle.protocol.specs.Refusals.{Refusal, first, refuse, pairs}
use Rattle.protocol.specs.Calls.{CircuitWords, circuit_of}
use Rattle.circuit.specs.Given.{circuit_words, lists_in}
use Rattle.circuit.specs.Judgement.{index_due, index_shape_refusal, index_refusal, index_contents_refusal}
use Rattle.shared.proofs.EarlyReturns.{stops, goes_on, last_answer_lem}
use Rattle.circuit.proofs.Parts.{index_in_parts, index_shape_fits}
use Rattle.call_refusals.proofs.judge_index.Goals as goal
use Rattle.call_refusals.proofs.judge_index.Goals.{Start}

-- what the call is given: its circuit and, the lengths of the lent slices; the tests of these, and the parts of the answer
module _ (s : Start) where
  abbrev circuit : CircuitWords
  circuit = circuit_words s.args.circuit.now

  abbrev lengths : List ℕ
  lengths = s.args.lent

  abbrev tests : List Bool
  tests = pairs eqb lengths (index_due (circuit_of circuit).matrices)

  module _ (q : Prime) where
    abbrev contents : Option Refusal
    contents = index_contents_refusal q (circuit_of circuit)

    abbrev after_shape : List (Option Refusal)
    after_shape = refuse 5 3 tests ∷ contents ∷ []

    in_parts : first (index_shape_refusal circuit ∷ after_shape) ≡ index_refusal q circuit lengths
    unfolding index_refusal
    in_parts = sym (index_in_parts q circuit tests)

-- the slices are judged by the lengths that are due
by_due : {o : Option Refusal} (s : Start) (due : List ℕ) → due ≡ index_due (lists_in s.args.circuit.now)
    → o ≡ refuse 5 3 (pairs eqb (lengths s) due) → o ≡ refuse 5 3 (tests s)
unfolding circuit_of
by_due s due same e = e ∙ ap (λ (due : List ℕ). refuse 5 3 (pairs eqb (lengths s) due)) same

pub returns-in_err-judge_index_shape : goal.returns-in_err-judge_index_shape
returns-in_err-judge_index_shape c q e =
    let s = (goal.at.returns-in_err-judge_index_shape c).Start in
    stops _ _ c.from_residual.ensures.1 c.in_err-judge_index_shape.ensures (after_shape s q) ∙ in_parts s q

pub returns-in_err-check_lent : goal.returns-in_err-check_lent
returns-in_err-check_lent c q e =
    let s = (goal.at.returns-in_err-check_lent c).Start in
    goes_on c.in_ok-judge_index_shape.ensures (after_shape s q)
    (stops _ _ c.from_residual-in_err-check_lent.ensures.1 (by_due s _ c.index_lengths-due.ensures c.in_err-check_lent.ensures) (contents s q ∷ []))
    ∙ in_parts s q

pub judge_index_contents-requires : goal.judge_index_contents-requires
judge_index_contents-requires c =
    let k = c.args.circuit.now in
    (index_shape_fits k.r k.c k.x k.matrices.a.now k.matrices.b.now k.matrices.c.now (sym c.in_ok-judge_index_shape.ensures)).lists

pub returns : goal.returns
unfolding circuit_of
returns c q e =
    let s = (goal.at.returns c).Start in
    goes_on c.in_ok-judge_index_shape.ensures (after_shape s q)
    (goes_on (by_due s _ c.index_lengths-due.ensures c.in_ok-check_lent.ensures) (contents s q ∷ [])
    (last_answer_lem (c.judge_index_contents.ensures q e (circuit_of (circuit s)) refl refl refl)))
    ∙ in_parts s q
