-- `circuit::checks::stands_before` meets its contract. Assumes nothing.
use borrow.Author.Tests.{lt-ltb, le-ltb, eq-eqb, ne_eqb}
use Rattle.protocol.specs.Refusals.{rises}
use Rattle.circuit.proofs.checks.stands_before.Goals as goal

pub returns-then-row-row2 : goal.returns-then-row-row2
unfolding rises
returns-then-row-row2 c = simp (lt-ltb _ _ c.if-row-row2.true)

pub returns-then-row-row2-2 : goal.returns-then-row-row2-2
unfolding rises
returns-then-row-row2-2 c = simp (le-ltb _ _ c.if-row-row2.false, eq-eqb _ _ c.if-row-row2-2.true)

pub returns-else-row-row2-2 : goal.returns-else-row-row2-2
unfolding rises
returns-else-row-row2-2 c = simp (le-ltb _ _ c.if-row-row2.false, ne_eqb _ _ c.if-row-row2-2.false)
