-- `circuit::checks::entry_passes` meets its contract. Assumes nothing.
use mathlib.Core.Path.{◌≡◌, sym, ◌∙◌}
use Prim.Native.Nat.{◌+◌, ◌*◌, ◌<◌}
use native.Mathlib.Omega.{arith}
use lib.ListN.{length}
use Rattle.protocol.specs.Circuit.{Circuit}
use Rattle.protocol.specs.Refusals.{fits}
use Rattle.circuit.specs.Given.{entry_words}
use Rattle.circuit.proofs.Entries.{fits_by, entry-words-within, entry_misfits, entry_first, entry_later}
use Rattle.circuit.proofs.checks.entry_passes.Goals as goal
use Rattle.circuit.proofs.checks.entry_passes.Goals.{After-entry_fits, Start}

-- the words of the entry are in the list
words-within : (s : Start) → 3 * s.args.i + 2 < length s.args.entries.now
words-within s = entry-words-within s.args.entries.now s.args.i s.requires

entry-answer : (c : After-entry_fits) (k : Circuit) → k.|R| ≡ c.args.r → k.|C| ≡ c.args.c
    → fits k (entry_words c.args.entries.now c.args.i) ≡ c.entry_fits.result
entry-answer c k er ec = fits_by k (entry_words c.args.entries.now c.args.i) er ec ∙ sym c.entry_fits.ensures

pub overflow_mul-at : goal.overflow_mul-at
overflow_mul-at c = omega (arith, words-within (goal.at.overflow_mul-at c).Start)

pub offset_bounds-entries-at : goal.offset_bounds-entries-at
offset_bounds-entries-at c = omega (arith, words-within (goal.at.offset_bounds-entries-at c).Start)

pub bounds-entries-at : goal.bounds-entries-at
bounds-entries-at c = omega (arith, words-within (goal.at.bounds-entries-at c).Start)

pub overflow_add-column : goal.overflow_add-column
overflow_add-column c = omega (arith, words-within (goal.at.overflow_add-column c).Start)

pub offset_bounds-entries-at-2 : goal.offset_bounds-entries-at-2
offset_bounds-entries-at-2 c = omega (arith, words-within (goal.at.offset_bounds-entries-at-2 c).Start)

pub bounds-entries-at-2 : goal.bounds-entries-at-2
bounds-entries-at-2 c = omega (arith, words-within (goal.at.bounds-entries-at-2 c).Start)

pub overflow_add-at : goal.overflow_add-at
overflow_add-at c = omega (arith, words-within (goal.at.overflow_add-at c).Start)

pub offset_bounds-entries-at-3 : goal.offset_bounds-entries-at-3
offset_bounds-entries-at-3 c = omega (arith, words-within (goal.at.offset_bounds-entries-at-3 c).Start)

pub bounds-entries-at-3 : goal.bounds-entries-at-3
bounds-entries-at-3 c = omega (arith, words-within (goal.at.bounds-entries-at-3 c).Start)

pub returns-then-not-entry_fits : goal.returns-then-not-entry_fits
returns-then-not-entry_fits c k er ec =
    let f = (goal.at.returns-then-not-entry_fits c).After-entry_fits in
    sym (entry_misfits k f.args.entries.now f.args.i f.requires (entry-answer f k er ec ∙ c.if-not-entry_fits.true))

pub returns-then-i-eq0 : goal.returns-then-i-eq0
returns-then-i-eq0 c k er ec =
    sym (entry_first k c.args.entries.now c.args.i c.requires (entry-answer (goal.at.returns-then-i-eq0 c).After-entry_fits k er ec ∙ c.if-not-entry_fits.false) c.if-i-eq0.true)

pub offset_bounds-entries-at-4 : goal.offset_bounds-entries-at-4
offset_bounds-entries-at-4 c = omega (arith, words-within (goal.at.offset_bounds-entries-at-4 c).Start)

pub bounds-entries-at-4 : goal.bounds-entries-at-4
bounds-entries-at-4 c = omega (arith, words-within (goal.at.bounds-entries-at-4 c).Start)

pub offset_bounds-entries-at-5 : goal.offset_bounds-entries-at-5
offset_bounds-entries-at-5 c = omega (arith, words-within (goal.at.offset_bounds-entries-at-5 c).Start)

pub bounds-entries-at-5 : goal.bounds-entries-at-5
bounds-entries-at-5 c = omega (arith, words-within (goal.at.bounds-entries-at-5 c).Start)

pub returns : goal.returns
returns c k er ec =
    c.stands_before.ensures
    ∙ sym
    (entry_later k c.args.entries.now c.args.i c.requires (entry-answer (goal.at.returns c).After-entry_fits k er ec ∙ c.if-not-entry_fits.false) c.if-i-eq0.false)
