-- What the loop of `step_refusals::holdings::all_zero` keeps: the words from here on decide. Assumes nothing.
use Rattle.std.proofs.Common.{◌≡◌, Bool, List, ℕ, map, drop, eqb}
use Rattle.protocol.specs.Session.{all}
use Rattle.step_refusals.proofs.holdings.all_zero.Given as goal

-- the test of a list of words
abbrev pub zeros : List ℕ → Bool
zeros l = all (map (λ w. eqb w 0) l)

abbrev pub invariant-loop-word : goal.invariant-loop-word
invariant-loop-word l = zeros l.words ≡ zeros (drop l.word-index l.words)
