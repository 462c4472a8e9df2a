-- `record::reader::end_fault` meets its contract. Assumes nothing.
use Rattle.std.proofs.Common.{sym, ◌∙◌, eq-eqb, ne_eqb, le-leb}
use borrow.Author.Tests.{lt-leb}
use Rattle.protocol.specs.Refusals.{end_refusal}
use Rattle.record.proofs.reader.end_fault.Goals as goal
use Rattle.record.proofs.reader.end_fault.Goals.{else-n-ge-TRAILER_BYTES-via-then-n-ge-TRAILER_BYTES+then-n-eq0+else-trailer_word-n, else-n-ge-TRAILER_BYTES-via-then-n-ge-TRAILER_BYTES+else-n-eq0, else-n-ge-TRAILER_BYTES-via-else-n-ge-TRAILER_BYTES}

pub returns-then-trailer_word-n : goal.returns-then-trailer_word-n
unfolding end_refusal
returns-then-trailer_word-n c =
    simp (
      le-leb _ _ c.if-n-ge-TRAILER_BYTES.true,
      eq-eqb _ _ c.if-n-eq0.true,
      eq-eqb _ _ (sym c.trailer_word.ensures ∙ c.if-trailer_word-n.true),
    )

pub returns-else-n-ge-TRAILER_BYTES : goal.returns-else-n-ge-TRAILER_BYTES
unfolding end_refusal
returns-else-n-ge-TRAILER_BYTES c =
    elim c.else-n-ge-TRAILER_BYTES.branch [
      | else-n-ge-TRAILER_BYTES-via-then-n-ge-TRAILER_BYTES+then-n-eq0+else-trailer_word-n w ↦
          simp (
            le-leb _ _ w.if-n-ge-TRAILER_BYTES.true,
            eq-eqb _ _ w.if-n-eq0.true,
            ne_eqb _ _ (λ e. w.if-trailer_word-n.false (w.trailer_word.ensures ∙ e)),
          )
      | else-n-ge-TRAILER_BYTES-via-then-n-ge-TRAILER_BYTES+else-n-eq0 w ↦
          simp (le-leb _ _ w.if-n-ge-TRAILER_BYTES.true, ne_eqb _ _ w.if-n-eq0.false)
      | else-n-ge-TRAILER_BYTES-via-else-n-ge-TRAILER_BYTES w ↦ simp (lt-leb _ _ w.if-n-ge-TRAILER_BYTES.false)
    ]
