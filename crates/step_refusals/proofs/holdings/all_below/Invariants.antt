-- What the loop of `step_refusals::holdings::all_below` keeps: the words from here on decide. Assumes nothing.
use Rattle.std.proofs.Common.{◌≡◌, Bool, List, ℕ, map, drop, ltb}
use Rattle.protocol.specs.Session.{all}
use Rattle.step_refusals.proofs.holdings.all_below.Given as goal

-- the test of a list of words
abbrev pub below : ℕ → List ℕ → Bool
below p l = all (map (λ w. ltb w p) l)

abbrev pub invariant-loop-word : goal.invariant-loop-word
invariant-loop-word l = below l.p l.words ≡ below l.p (drop l.word-index l.words)
