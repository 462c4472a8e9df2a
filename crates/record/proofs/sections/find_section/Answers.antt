-- `record::sections::find_section` meets its contract: the section lies between two bounds. Assumes nothing.
use Rattle.std.proofs.Common.{◌≡◌, sym, ap, ap₂, ◌∙◌, List, ℕ, ◌<◌, arith, length}
use Rattle.protocol.specs.Record.{section_lengths, section_bytes, sizes_read}
use Rattle.protocol.specs.Refusals.{Done}
use Rattle.record.specs.Layout.{bounds}
use Rattle.record.proofs.Bounds.{bounds_rise, bounds-within, start_between, length-between}
use Rattle.record.proofs.Places.{place_by_layout, place_by_number, place_by_words, place_found}
use Rattle.shared.proofs.EarlyReturns.{exits_as}
use Rattle.record.proofs.Rows.{laid}
use Rattle.record.proofs.Starts.{eleven}
use Rattle.record.proofs.sections.find_section.Goals as goal
use Rattle.record.proofs.sections.find_section.Goals.{After-section_bounds-bounds}

-- the bounds of the sections, and that section k is there
module _ (b : After-section_bounds-bounds) where
  abbrev bytes : List ℕ
  bytes = b.args.bytes.now

  abbrev lengths : List ℕ
  lengths = section_lengths (sizes_read bytes)

  abbrev given : List ℕ
  given = b.section_bounds-bounds.result

  within : b.args.k < length lengths
  within = omega (arith, b.if-k-ge-SECTIONS.false, eleven (sizes_read bytes))

  same : given ≡ bounds lengths
  same = b.section_bounds-bounds.ensures ∙ ap (λ s. bounds (section_lengths s)) b.sizes_in.ensures

pub returns-in_err-layout_fault-clause-result_value : goal.returns-in_err-layout_fault-clause-result_value
returns-in_err-layout_fault-clause-result_value c q e =
    exits_as _ _ _ c.from_residual.ensures.1 ∙ sym (place_by_layout q c.args.bytes.now c.args.k (sym c.in_err-layout_fault.ensures))

pub returns-then-k-ge-SECTIONS-clause-result_value : goal.returns-then-k-ge-SECTIONS-clause-result_value
returns-then-k-ge-SECTIONS-clause-result_value c q e =
    sym (place_by_number q c.args.bytes.now c.args.k (sym c.in_ok-layout_fault.ensures) c.if-k-ge-SECTIONS.true)

pub returns-in_err-section_words_fault-clause-result_value : goal.returns-in_err-section_words_fault-clause-result_value
returns-in_err-section_words_fault-clause-result_value c q e =
    let free = sym c.in_ok-layout_fault.ensures in
    let stopped = sym (c.in_err-section_words_fault.ensures q e) in
    exits_as _ _ _ c.from_residual-in_err-section_words_fault.ensures.1
    ∙ sym (place_by_words q c.args.bytes.now c.args.k free c.if-k-ge-SECTIONS.false stopped)

pub sizes_in-requires : goal.sizes_in-requires
sizes_in-requires c = (laid c.args.bytes.now (sym c.in_ok-layout_fault.ensures)).long

pub section_bounds-bounds-requires : goal.section_bounds-bounds-requires
section_bounds-bounds-requires c = rw c.sizes_in.ensures (laid c.args.bytes.now (sym c.in_ok-layout_fault.ensures)).allowed

pub overflow_sub-result : goal.overflow_sub-result
overflow_sub-result c = bounds_rise (lengths c) (given c) (same c) c.args.k (within c)

pub returns-clause-result_value : goal.returns-clause-result_value
returns-clause-result_value c q e =
    let k = c.args.k in
    let start = start_between (lengths c) (given c) (same c) k (within c) in
    let long = length-between (lengths c) (given c) (same c) k (within c) in
    let free = sym c.in_ok-layout_fault.ensures in
    ap₂ (λ m n. Done (m, n)) start long
    ∙ sym (place_found q (bytes c) k free c.if-k-ge-SECTIONS.false (sym (c.in_ok-section_words_fault.ensures q e)))

pub returns-clause-within : goal.returns-clause-within
unfolding section_bytes
returns-clause-within c =
    let l = laid (bytes c) (sym c.in_ok-layout_fault.ensures) in
    let k = c.args.k in
    omega (
      arith,
      bounds_rise (lengths c) (given c) (same c) k (within c),
      bounds-within (lengths c) (given c) (same c) k (within c),
      l.total,
      l.long,
    )
