-- `record::layout::section_bounds` meets its contract: the bounds so far are those of the lengths so far. Assumes nothing.
use Rattle.std.proofs.Common.{◌≡◌, refl, sym, ap, ◌∙◌, List, ℕ, ◌+◌, ◌<◌, ◌≤◌, arith, length, take_all, length-set}
use Rattle.algebra.specs.Counting.{All}
use Rattle.protocol.specs.Circuit.{Sizes}
use Rattle.protocol.specs.Record.{section_lengths, starts_from}
use Rattle.record.specs.Layout.{Allowed, bounds}
use Rattle.record.proofs.Starts.{eleven}
use Rattle.record.proofs.Bounds.{next_bound, bounds_turn}
use Rattle.record.proofs.Allowed.{member_bound, byte_count_bound, lengths_bound}
use Rattle.record.proofs.layout.section_bounds.Goals as goal

module _ (s : Sizes) {l : List ℕ} (same : l ≡ section_lengths s) where
  small : Allowed s → All (λ n. n ≤ 2048) l
  small allowed = rw same (lengths_bound s allowed)

  count : length l ≡ 11
  count = ap length same ∙ eleven s

pub loop-k-init : goal.loop-k-init
unfolding bounds starts_from
loop-k-init c = record { whole = refl; before = refl; so_far = refl }

pub overflow_mul-at : goal.overflow_mul-at
overflow_mul-at c = omega (arith, member_bound _ c.loop-k.k (small _ c.section_lengths-lengths.ensures c.requires))

pub overflow_cast-at : goal.overflow_cast-at
overflow_cast-at c = omega (arith, member_bound _ c.loop-k.k (small _ c.section_lengths-lengths.ensures c.requires))

pub overflow_add-at : goal.overflow_add-at
overflow_add-at c =
    let bound = small _ c.section_lengths-lengths.ensures c.requires in
    omega (arith, member_bound _ c.loop-k.k bound, byte_count_bound _ c.loop-k.k bound)

pub loop-k-preserved : goal.loop-k-preserved
loop-k-preserved c =
    let l = c.section_lengths-lengths.result in
    let s = c.loop-k in
    let below : s.k < length l = omega (arith, count _ c.section_lengths-lengths.ensures) in
    record {
      whole = simp length-set s.invariant.whole;
      before = next_bound l s.starts s.k s.at below s.invariant.before;
      so_far = bounds_turn l s.starts s.k s.at below s.invariant.before (omega (arith, s.invariant.whole)) s.invariant.so_far;
    }

pub returns : goal.returns
returns c =
    let lengths = c.section_lengths-lengths in
    let s = c.loop-k in
    sym (take_all (s.k + 1) s.starts (omega (arith, s.invariant.whole))) ∙ s.invariant.so_far
    ∙ ap bounds (take_all s.k lengths.result (omega (arith, count _ lengths.ensures)) ∙ lengths.ensures)
