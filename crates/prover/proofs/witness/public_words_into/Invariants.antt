-- What the loop of `prover::witness::public_words_into` keeps. Assumes nothing.
use Rattle.std.proofs.Common.{List, ℕ, ◌*◌, length, get_or}
use Rattle.algebra.specs.Lists.{tabulate}
use Rattle.domain.proofs.Fill.{Filled}
use Rattle.prover.proofs.witness.public_words_into.Given as goal

-- what the slice is to hold
abbrev pub picked : ℕ → List ℕ → ℕ → List ℕ
picked step z n = tabulate n (λ i. get_or z (i * step) 0)

abbrev pub invariant-loop-i : goal.invariant-loop-i
invariant-loop-i l = Filled (picked l.step l.z (length l.initial.out)) l.out l.i
