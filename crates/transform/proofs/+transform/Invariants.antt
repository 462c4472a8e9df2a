-- The slice gets shorter. Assumes nothing.
use lib.ListN.{length}
use Rattle.transform.proofs.+transform.Given as goal

abbrev pub decreases-transform : goal.decreases-transform
decreases-transform l = length l.out.now
