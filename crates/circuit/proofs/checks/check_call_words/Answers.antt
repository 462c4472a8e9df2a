-- `circuit::checks::check_call_words` meets its contract: the circuit's words, then the call's others. Assumes nothing.
use mathlib.Core.Path.{◌≡◌, sym, ◌∙◌}
use mathlib.Core.List.{List, [], ◌∷◌, ◌++◌, map}
use mathlib.Core.Option.{Option}
use Prim.Native.Nat.{ℕ, ◌+◌, ◌/◌}
use lib.Dec.{ltb}
use lib.ListN.{length}
use Rattle.std.proofs.Common.{Bor}
use Rattle.shared.specs.declared.Three.{Three}
use Rattle.field.specs.Prime.{Prime}
use Rattle.protocol.specs.Circuit.{Circuit}
use Rattle.protocol.specs.Refusals.{Refusal, first, refuse, word_refusal}
use Rattle.protocol.specs.Admission.{entry_values}
use Rattle.circuit.specs.Given.{lists_in}
use Rattle.shared.proofs.EarlyReturns.{stops, goes_on, last_answer_lem}
use Rattle.circuit.proofs.Parts.{values_length, words_in_parts}
use Rattle.circuit.proofs.checks.check_call_words.Goals as goal
use Rattle.circuit.proofs.checks.check_call_words.Goals.{Start}

-- the words after the circuit's values, the place of the first of them, and their part of the answer
module _ (s : Start) where
  abbrev others : List ℕ
  others = s.args.input.now.z.now ++ (s.args.input.now.mask ∷ (s.args.input.now.m.now ++ s.args.challenges.now))

  abbrev lists : Three (Bor (List ℕ))
  lists = s.args.input.now.circuit.matrices

  abbrev place : ℕ
  place = length lists.a.now / 3 + (length lists.b.now / 3 + length lists.c.now / 3)

  abbrev part : Option Refusal
  part = refuse 6 place (map (λ w. ltb w s.args.p) others)

  in_parts : (q : Prime) (k : Circuit) → q.p ≡ s.args.p → k.matrices ≡ lists_in s.args.input.now.circuit
      → first (refuse 6 0 (map (λ w. ltb w s.args.p) (entry_values k)) ∷ part ∷ []) ≡ word_refusal q (entry_values k ++ others)
  in_parts q k e matrices =
      sym (words_in_parts q k e others place (sym (values_length k lists.a.now lists.b.now lists.c.now matrices)))

pub returns-in_err-check_three_values : goal.returns-in_err-check_three_values
returns-in_err-check_three_values c q e k matrices =
    let s = (goal.at.returns-in_err-check_three_values c).Start in
    stops _ _ c.from_residual.ensures.1 (c.in_err-check_three_values.ensures k matrices) (part s ∷ []) ∙ in_parts s q k e matrices

pub returns : goal.returns
returns c q e k matrices =
    let s = (goal.at.returns c).Start in
    goes_on (c.in_ok-check_three_values.ensures k matrices) (part s ∷ []) (last_answer_lem {o = part s} c.check_prover_words.ensures)
    ∙ in_parts s q k e matrices
