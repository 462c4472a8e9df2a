-- `record_writer::judging::sections_fault` meets its contract: what is left are the sections from a place on. Assumes nothing.
use Rattle.std.proofs.Common.{sym, ◌∙◌, [], ◌∷◌, ◌+◌, arith, drop, length, get_or}
use Rattle.protocol.proofs.Rows.{first_pass}
use Rattle.shared.proofs.EarlyReturns.{stops}
use Rattle.record_writer.specs.Sections.{lists, joined, refuse_words}
use Rattle.record_writer.proofs.Lists.{blank, from_here, count-left, words-left}
use Rattle.record_writer.proofs.judging.sections_fault.Goals as goal

pub returns-in_err-judge_words : goal.returns-in_err-judge_words
returns-in_err-judge_words c =
    let l = c.loop-words in
    let refs = c.args.sections.now in
    let after = l.start + length (get_or refs l.words-index blank).now in
    stops _ _ c.from_residual.ensures.1 c.in_err-judge_words.ensures
    (refuse_words c.args.p after (joined (lists (drop (l.words-index + 1) refs))) ∷ [])
    ∙ sym (l.invariant.so_far ∙ words-left (from_here refs l.words-index (omega arith)) c.args.p l.start)

pub loop-words-preserved : goal.loop-words-preserved
loop-words-preserved c =
    let l = c.loop-words in
    let refs = c.args.sections.now in
    let next = from_here refs l.words-index (omega arith) in
    record {
      few = omega (arith, count-left next);
      so_far = l.invariant.so_far ∙ words-left next c.args.p l.start ∙ first_pass _ (sym c.in_ok-judge_words.ensures);
    }
