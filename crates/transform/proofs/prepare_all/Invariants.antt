-- What the loop of `transform::prepare_all` keeps: the words below i have their quotients. Assumes nothing.
use Rattle.std.proofs.Common.{◌≡◌, ℕ, ◌*◌, ◌/◌, ◌<◌, get_or}
use Rattle.transform.proofs.prepare_all.Given as goal

abbrev pub invariant-loop-i : goal.invariant-loop-i
invariant-loop-i l =
    (n : ℕ) → n < l.i → get_or l.powers n 0 < l.p → get_or l.quotients n 0 ≡ get_or l.powers n 0 * 4294967296 / l.p
