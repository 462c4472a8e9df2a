-- `shared::six_sizes::judge_sizes` meets its contract. Assumes nothing.
use mathlib.Core.Path.{◌≡◌, ap, ◌∙◌}
use mathlib.Core.Bool.{Bool}
use mathlib.Core.List.{List, [], ◌∷◌}
use Rattle.protocol.specs.Refusals.{refuse, size_tests, six_size_tests}
use Rattle.shared.specs.Meanings.{row_number}
use Rattle.shared.proofs.six_sizes.judge_sizes.Goals as goal

-- six tests that are equal one by one
same_tests : {r c x k l m r' c' x' k' l' m' : Bool} → r ≡ r' → c ≡ c' → x ≡ x' → k ≡ k' → l ≡ l' → m ≡ m'
    → ◌≡◌ {A = List Bool} (r ∷ c ∷ x ∷ k ∷ l ∷ m ∷ []) (r' ∷ c' ∷ x' ∷ k' ∷ l' ∷ m' ∷ [])
same_tests r c x k l m = cc

pub returns : goal.returns
unfolding size_tests six_size_tests
returns c =
    let last = c in
    let a = last.args in
    c.first_failed.ensures
    ∙ ap (refuse (row_number a.row) a.position)
    (same_tests last.is_size.ensures last.is_size-2.ensures
    last.is_public_size.ensures last.is_size-3.ensures last.is_size-4.ensures
    last.is_size-5.ensures)
