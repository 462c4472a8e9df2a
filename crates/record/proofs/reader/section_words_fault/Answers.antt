-- `record::reader::section_words_fault` meets its contract: every word passed so far is below p. Assumes nothing.
use Rattle.std.proofs.Common.{◌≡◌, sym, ◌∙◌, false, List, ℕ, ◌*◌, ◌<◌, ◌-◌, arith, ltb, length, get_or, lt-ltb, le-ltb}
use Rattle.protocol.specs.Record.{word_at}
use Rattle.protocol.specs.Refusals.{trailer_bytes}
use Rattle.protocol.proofs.Rows.{passed_none, passed_turn, passed_stop, passed_end, word_row}
use Rattle.record.proofs.Rows.{laid, whole-sections}
use Rattle.record.proofs.WordList as word-list
use Rattle.record.proofs.reader.section_words_fault.Invariants.{words, tests}
use Rattle.record.proofs.reader.section_words_fault.Goals as goal
use Rattle.record.proofs.reader.section_words_fault.Goals.{After-section_word_count-i-end}

-- the tests, from where their count is known
module _ (b : After-section_word_count-i-end) where
  abbrev p : ℕ
  p = b.args.p

  abbrev bytes : List ℕ
  bytes = b.args.bytes.now

  abbrev count : ℕ
  count = b.section_word_count-i-end.result

  whole : 4 * count ≡ length bytes - trailer_bytes
  whole = omega (arith, whole-sections bytes b.requires, b.section_word_count-i-end.ensures)

  length_tests : length (tests p bytes) ≡ count
  length_tests = word-list.length_tests bytes (length bytes - trailer_bytes) count whole (omega arith) p

  test_at : (i : ℕ) → i < count → get_or (tests p bytes) i false ≡ ltb (word_at bytes i) p
  test_at i below = word-list.test_at bytes (length bytes - trailer_bytes) count whole (omega arith) p i false below

pub section_word_count-i-end-requires : goal.section_word_count-i-end-requires
section_word_count-i-end-requires c = (laid c.args.bytes.now c.requires).long

pub loop-i-init : goal.loop-i-init
loop-i-init c = passed_none 6 0 _

pub word_at-requires : goal.word_at-requires
word_at-requires c = omega (arith, whole (goal.at.word_at-requires c).After-section_word_count-i-end)

pub returns-then-p-word_at : goal.returns-then-p-word_at
returns-then-p-word_at c q e =
    let b = (goal.at.returns-then-p-word_at c).After-section_word_count-i-end in
    let i = c.loop-i.i in
    passed_stop 6 0 (tests (p b) (bytes b)) i c.loop-i.invariant (omega (arith, length_tests b)) false i (omega arith)
    (test_at b i (omega arith) ∙ le-ltb (word_at (bytes b) i) (p b) (omega (arith, c.word_at.ensures)))
    ∙ word_row q e (words (bytes b))

pub loop-i-preserved : goal.loop-i-preserved
loop-i-preserved c =
    let b = (goal.at.loop-i-preserved c).After-section_word_count-i-end in
    let i = c.loop-i.i in
    passed_turn 6 0 (tests (p b) (bytes b)) i c.loop-i.invariant (omega (arith, length_tests b)) false
    (test_at b i (omega arith) ∙ lt-ltb (word_at (bytes b) i) (p b) (omega (arith, c.word_at.ensures)))

pub returns : goal.returns
returns c q e =
    let b = (goal.at.returns c).After-section_word_count-i-end in
    sym (passed_end 6 0 (tests (p b) (bytes b)) c.loop-i.i c.loop-i.invariant (omega (arith, length_tests b)))
    ∙ word_row q e (words (bytes b))
