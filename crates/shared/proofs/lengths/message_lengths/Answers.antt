-- `shared::lengths::message_lengths` meets its contract: each length by the call that gives it. Assumes nothing.
use Rattle.std.proofs.Common.{ap, ◌∙◌, ◌+◌, ◌-◌, ◌*◌}
use Rattle.protocol.specs.Messages.{lengths}
use Rattle.shared.proofs.lengths.message_lengths.Goals as goal

pub returns : goal.returns
unfolding lengths
returns c =
    λ t.
    record {
      witness = c.saturating_sub.ensures t + 1;
      mask = 2 * c.args.s.c;
      row_quotient = c.saturating_sub-2.ensures t;
      line_remainder = c.saturating_sub-3.ensures t;
      line_quotient = c.args.s.c;
      matrix_remainders = record { a = c.saturating_sub-4.ensures t; b = c.saturating_sub-5.ensures t; c = c.saturating_sub-6.ensures t };
      joined_quotient = (c.saturating_sub-7.ensures ∙ ap (λ n. n - 1) c.largest.ensures) t;
    }
