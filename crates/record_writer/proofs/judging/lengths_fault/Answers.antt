-- `record_writer::judging::lengths_fault` meets its contract: every length passed so far is the one given. Assumes nothing.
use Rattle.std.proofs.Common.{◌≡◌, sym, ap, ◌∙◌, Bool, false, List, [], ◌∷◌, map, ℕ, ◌+◌, ◌<◌, ◌≤◌, arith, eqb, length, get_or, eq-eqb, ne_eqb}
use Rattle.std.proofs.Math.Option.{Option}
use Rattle.shared.specs.Meanings.{sizes}
use Rattle.protocol.specs.Refusals.{Refusal, first, refuse, pairs, trailer_bytes}
use Rattle.protocol.proofs.Rows.{Passed, passed_none, passed_turn, passed_stop, passed_end, length_pairs, pairs-at, first_stop, first_pass}
use Rattle.record_writer.proofs.Lengths.{length-due, length-rows}
use Rattle.record_writer.proofs.Lists.{blank, length-lengths, length_at}
use Rattle.record_writer.specs.Sections.{lists, length_refusals}
use Rattle.record_writer.proofs.judging.lengths_fault.Goals as goal
use Rattle.record_writer.proofs.judging.lengths_fault.Goals.{After-section_bounds-bounds}

-- the row of the lengths, and the refusal by it, from where the bounds are known
module _ (b : After-section_bounds-bounds) where
  abbrev found : List ℕ
  found = map length (lists b.args.sections.now)

  abbrev due : List ℕ
  due = b.section_lengths-due.result

  abbrev tests : List Bool
  tests = pairs eqb found due

  abbrev lent_row : Option Refusal
  lent_row = refuse 5 11 (eqb b.args.lent (get_or b.section_bounds-bounds.result 11 0 + trailer_bytes) ∷ [])

  eleven_found : length found ≡ 11
  eleven_found = omega (arith, length-lengths b.args.sections.now)

  eleven_due : length due ≡ 11
  eleven_due = length-due (sizes b.args.s) b.section_lengths-due.ensures

  rows : length_refusals (sizes b.args.s) found b.args.lent ≡ first (refuse 5 0 tests ∷ lent_row ∷ [])
  rows =
      length-rows (sizes b.args.s) found _ _ b.args.lent eleven_found b.section_lengths-due.ensures b.section_bounds-bounds.ensures

  length_tests : length tests ≡ 11
  length_tests = omega (arith, length_pairs eqb found due, eleven_found, eleven_due)

  test_at : (k : ℕ) → k < 11 → get_or tests k false ≡ eqb (length (get_or b.args.sections.now k blank).now) (get_or due k 0)
  test_at k below =
      pairs-at eqb found due k 0 0 false (omega (arith, eleven_found)) (omega (arith, eleven_due))
      ∙ ap (λ n. eqb n (get_or due k 0)) (length_at b.args.sections.now k (omega arith))

  -- the row of the lent bytes is what is left where the lengths pass
  last : (k : ℕ) → Passed 5 0 tests k → 11 ≤ k → length_refusals (sizes b.args.s) found b.args.lent ≡ lent_row
  last k passed past = rows ∙ first_pass lent_row (passed_end 5 0 tests k passed (omega (arith, length_tests)))

pub loop-k-init : goal.loop-k-init
loop-k-init c = passed_none 5 0 _

pub returns-then-words-due : goal.returns-then-words-due
returns-then-words-due c =
    let b = (goal.at.returns-then-words-due c).After-section_bounds-bounds in
    let k = c.loop-k.k in
    let stops = passed_stop 5 0 (tests b) k c.loop-k.invariant (omega (arith, length_tests b)) false k (omega arith)
    (test_at b k (omega arith) ∙ ne_eqb _ _ c.if-words-due.true) in
    sym (rows b ∙ first_stop (lent_row b ∷ []) (sym stops))

pub loop-k-preserved : goal.loop-k-preserved
loop-k-preserved c =
    let b = (goal.at.loop-k-preserved c).After-section_bounds-bounds in
    let k = c.loop-k.k in
    passed_turn 5 0 (tests b) k c.loop-k.invariant (omega (arith, length_tests b)) false
    (test_at b k (omega arith) ∙ eq-eqb _ _ c.if-words-due.false)

pub returns-then-lent-bounds : goal.returns-then-lent-bounds
returns-then-lent-bounds c =
    let b = (goal.at.returns-then-lent-bounds c).After-section_bounds-bounds in
    sym (last b c.loop-k.k c.loop-k.invariant (omega arith) ∙ ap (λ t. refuse 5 11 (t ∷ [])) (ne_eqb _ _ c.if-lent-bounds.true))

pub returns : goal.returns
returns c =
    let b = (goal.at.returns c).After-section_bounds-bounds in
    sym (last b c.loop-k.k c.loop-k.invariant (omega arith) ∙ ap (λ t. refuse 5 11 (t ∷ [])) (eq-eqb _ _ c.if-lent-bounds.false))
