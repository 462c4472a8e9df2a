-- `step_refusals::holdings::left_by_steps` meets its contract. Assumes nothing.
use Rattle.std.proofs.Common.{arith}
use Rattle.domain.proofs.SizeLaws.{size_bound}
use Rattle.shared.specs.Meanings.{sizes}
use Rattle.protocol.specs.Session.{left_by_steps}
use Rattle.protocol.proofs.AllowedSizes.{allowed}
use Rattle.step_refusals.proofs.Tests.{joined}
use Rattle.step_refusals.proofs.holdings.left_by_steps.Goals as goal

pub public_fits-requires : goal.public_fits-requires
public_fits-requires c =
    omega (arith, size_bound c.args.s.x (allowed (sizes c.args.s) c.requires.s_value).X-size, c.requires.x_len)

pub returns-then-public_fits : goal.returns-then-public_fits
unfolding left_by_steps
returns-then-public_fits c q Q e stage = joined _ c.if-public_fits.true (c.public_fits.ensures q e) (c.transcript_fits.ensures q Q e)

pub returns-else-public_fits : goal.returns-else-public_fits
unfolding left_by_steps
returns-else-public_fits c q Q e stage = joined _ c.if-public_fits.false (c.public_fits.ensures q e) c.if-public_fits.false
