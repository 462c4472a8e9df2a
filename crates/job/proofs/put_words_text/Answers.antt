-- `job::put_words_text` meets its contract. Assumes nothing.
use mathlib.Core.Path.{◌≡◌, sym}
use Prim.Native.Nat.{◌*◌}
use native.Mathlib.Omega.{arith}
use Rattle.text.proofs.WrittenLaws.{written_as}
use Rattle.job.specs.JobText.{job_length}
use Rattle.job.proofs.HeadLaws.{length_most, head_refused, text_left-over, text_unfinished, text_whole}
use borrow.Author.Rules.{rules}
use Rattle.job.proofs.put_words_text.Goals as goal

pub overflow_mul-due : goal.overflow_mul-due
overflow_mul-due c =
    let ws = c.args.words.now in
    omega (arith, c.job_length-due.ensures, length_most ws (sym c.in-Ok.ensures))

pub returns-then-due-count : goal.returns-then-due-count
returns-then-due-count c =
    let a = c.args in
    written_as (text_left-over a.count a.words.now (sym c.in-Ok.ensures)
    (omega (arith, c.job_length-due.ensures, c.if-due-count.true)))
    c.put_too_long.ensures

pub returns-then-count-due : goal.returns-then-count-due
returns-then-count-due c =
    let a = c.args in
    written_as (text_unfinished a.count a.words.now (sym c.in-Ok.ensures)
    (omega (arith, c.job_length-due.ensures, c.if-count-due.true)))
    c.put_too_short.ensures

pub put_whole-requires : goal.put_whole-requires
put_whole-requires c =
    let same : c.args.count ≡ 4 * job_length c.args.words.now =
    omega (arith, c.job_length-due.ensures, c.if-count-due.false, c.if-due-count.false) in
    record {
      ws_value = sym c.in-Ok.ensures;
      ws_len = omega (arith, c.requires.words_len, same);
      most_proof_in_bounds = search rules;
    }

pub returns-in-Err : goal.returns-in-Err
returns-in-Err c =
    let a = c.args in
    written_as (head_refused a.count a.words.now (sym c.in-Err.ensures))
    c.put_refused.ensures.written

pub returns-else-count-due : goal.returns-else-count-due
returns-else-count-due c =
    let a = c.args in
    written_as
    (text_whole a.count a.words.now (sym c.in-Ok.ensures)
    (omega (arith, c.job_length-due.ensures, c.if-count-due.false, c.if-due-count.false)))
    c.put_whole.ensures
