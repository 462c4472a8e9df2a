-- `shared::scans::judge_words` meets its contract: the words before i are below p. Assumes nothing.
use Rattle.std.proofs.Common.{arith, sym, refl, ◌∙◌, Bool, false, ℕ, map, ltb}
use borrow.Author.Tests.{lt-ltb, le-ltb}
use lib.ListN.{length-map}
use Rattle.protocol.proofs.Rows.{passed_none, passed_turn, passed_stop, passed_end, map_at}
use Rattle.shared.proofs.scans.judge_words.Goals as goal

pub loop-i-init : goal.loop-i-init
loop-i-init c = passed_none 6 _ _

pub returns-then-p-word : goal.returns-then-p-word
returns-then-p-word c =
    let a = c.args in
    let test : ℕ → Bool = λ w. ltb w a.p in
    passed_stop 6 a.position (map test a.words.now) c.loop-i.i c.loop-i.invariant (omega (arith, length-map a.words.now test)) false _ refl
    (map_at test a.words.now c.loop-i.i 0 false (omega arith) ∙ le-ltb _ _ c.if-p-word.true)

pub loop-i-preserved : goal.loop-i-preserved
loop-i-preserved c =
    let a = c.args in
    let test : ℕ → Bool = λ w. ltb w a.p in
    passed_turn 6 a.position (map test a.words.now) c.loop-i.i c.loop-i.invariant (omega (arith, length-map a.words.now test)) false
    (map_at test a.words.now c.loop-i.i 0 false (omega arith) ∙ lt-ltb _ _ c.if-p-word.false)

pub returns : goal.returns
returns c =
    let a = c.args in
    let test : ℕ → Bool = λ w. ltb w a.p in
    sym (passed_end 6 a.position (map test a.words.now) c.loop-i.i c.loop-i.invariant (omega (arith, length-map a.words.now test)))
