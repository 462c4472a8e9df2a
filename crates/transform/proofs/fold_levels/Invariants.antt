-- What the loop of `transform::fold_levels` keeps. Assumes nothing.
use Rattle.std.proofs.Common.{◌≡◌, List, ℕ, ◌+◌, ◌/◌, ◌≤◌, ◌<◌, length, get_or}
use Rattle.transform.proofs.fold_levels.Given as goal

-- the places from j to h hold what stands at twice their place
abbrev pub Doubled : List ℕ → ℕ → ℕ → Type 0
Doubled l j h = (i : ℕ) → 0 < i → j ≤ i → i < h → get_or l i 0 ≡ get_or l (i + i) 0

abbrev pub invariant-loop-j : goal.invariant-loop-j
invariant-loop-j l =
    Doubled l.powers l.j (length l.initial.powers / 2)
    × ((i : ℕ) → length l.initial.powers / 2 ≤ i → get_or l.powers i 0 ≡ get_or l.initial.powers i 0)
