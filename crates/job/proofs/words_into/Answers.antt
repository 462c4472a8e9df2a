-- `job::words_into` meets its contract: the words before i are in place. Assumes nothing.
use Rattle.std.proofs.Common.{sym, ◌∙◌, ◌/◌, ◌<◌, length, arith}
use Rattle.algebra.proofs.PolynomialLaws.{length-tabulate, get_d_tabulate}
use Rattle.domain.proofs.Fill.{fill_none, fill_turn, fill_end}
use Rattle.protocol.specs.Record.{word_at, words_in}
use Rattle.job.proofs.words_into.Goals as goal

pub loop-i-init : goal.loop-i-init
loop-i-init c = fill_none _ _

pub loop-i-preserved : goal.loop-i-preserved
unfolding words_in
loop-i-preserved c =
    let l = c.loop-i in
    let bytes = c.args.bytes.now in
    let below : l.i < length bytes / 4 = omega (arith, c.requires) in
    fill_turn (words_in bytes) l.words l.i c.word_at.result (omega arith)
    (omega (arith, length-tabulate (length bytes / 4) (word_at bytes)))
    l.invariant (c.word_at.ensures ∙ sym (get_d_tabulate (length bytes / 4) l.i (word_at bytes) 0 below))

pub returns : goal.returns
unfolding words_in
returns c =
    let l = c.loop-i in
    let bytes = c.args.bytes.now in
    fill_end (words_in bytes) l.words l.i (omega arith)
    (omega (arith, c.requires, length-tabulate (length bytes / 4) (word_at bytes))) l.invariant
