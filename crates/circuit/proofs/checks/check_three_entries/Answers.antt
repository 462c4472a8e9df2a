-- `circuit::checks::check_three_entries` meets its contract: A, then B, then C. Assumes nothing.
use Rattle.std.proofs.Common.{◌≡◌, refl, sym, ◌∙◌, List, [], ◌∷◌, ◌+◌, ◌/◌, length, ℕ, Bor}
use mathlib.Core.Option.{Option}
use Rattle.protocol.specs.Circuit.{Circuit}
use Rattle.protocol.specs.Refusals.{Refusal, first, refuse, entry_tests, entry_refusal}
use Rattle.protocol.specs.Calls.{entries_of}
use Rattle.circuit.specs.Given.{lists_in}
use Rattle.shared.specs.declared.Three.{Three}
use Rattle.shared.proofs.EarlyReturns.{stops, goes_on, last_answer_lem}
use Rattle.circuit.proofs.Parts.{entries_in_parts}
use Rattle.circuit.proofs.checks.check_three_entries.Goals as goal
use Rattle.circuit.proofs.checks.check_three_entries.Goals.{Start}

-- the parts after B and after A, and all of them, for a circuit that the call is given
module _ (k : Circuit) (s : Start) where
  abbrev lists : Three (Bor (List ℕ))
  lists = s.args.circuit.now.matrices

  abbrev after-b : List (Option Refusal)
  after-b = refuse 7 (length lists.a.now / 3 + length lists.b.now / 3) (entry_tests k (entries_of lists.c.now)) ∷ []

  abbrev after-a : List (Option Refusal)
  after-a = refuse 7 (length lists.a.now / 3) (entry_tests k (entries_of lists.b.now)) ∷ after-b

  in_parts : k.matrices ≡ lists_in s.args.circuit.now → first (refuse 7 0 (entry_tests k (entries_of lists.a.now)) ∷ after-a) ≡ entry_refusal k
  in_parts matrices = sym (entries_in_parts k lists.a.now lists.b.now lists.c.now matrices _ _ refl refl)

pub returns-in_err-check_entries : goal.returns-in_err-check_entries
returns-in_err-check_entries c k er ec matrices =
    let s = (goal.at.returns-in_err-check_entries c).Start in
    stops _ _ c.from_residual.ensures.1 (c.in_err-check_entries.ensures k er ec) (after-a k s) ∙ in_parts k s matrices

pub returns-in_err-check_entries-2 : goal.returns-in_err-check_entries-2
returns-in_err-check_entries-2 c k er ec matrices =
    let s = (goal.at.returns-in_err-check_entries-2 c).Start in
    goes_on (c.in_ok-check_entries.ensures k er ec) (after-a k s)
    (stops _ _ c.from_residual-in_err-check_entries-2.ensures.1 (c.in_err-check_entries-2.ensures k er ec) (after-b k s))
    ∙ in_parts k s matrices

pub returns : goal.returns
returns c k er ec matrices =
    let s = (goal.at.returns c).Start in
    goes_on (c.in_ok-check_entries.ensures k er ec) (after-a k s)
    (goes_on (c.in_ok-check_entries-2.ensures k er ec) (after-b k s) (last_answer_lem (c.check_entries-3.ensures k er ec)))
    ∙ in_parts k s matrices
