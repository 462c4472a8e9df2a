-- The slice gets shorter. Assumes nothing.
use lib.ListN.{length}
use Rattle.domain.proofs.+lagrange_values_into.Given as goal

abbrev pub decreases-lagrange_values_into : goal.decreases-lagrange_values_into
decreases-lagrange_values_into l = length l.out.now
