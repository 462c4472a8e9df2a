-- What the loop of `record::layout::section_bounds` keeps. Assumes nothing.
use Rattle.std.proofs.Common.{◌≡◌, ◌+◌, length, take}
use Rattle.record.specs.Layout.{byte_count, bounds}
use Rattle.record.proofs.layout.section_bounds.Given as goal

abbrev pub invariant-loop-k : goal.invariant-loop-k
invariant-loop-k l =
    record {
      whole : length l.starts ≡ 12;
      before : l.at ≡ byte_count (take l.k l.length-items);
      so_far : take (l.k + 1) l.starts ≡ bounds (take l.k l.length-items);
    }
