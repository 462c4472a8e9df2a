-- `circuit::checks::check_assignment_lists` meets its contract. Assumes nothing.
use borrow.Author.Tests.{eq-eqb, ne_eqb}
use Rattle.circuit.proofs.checks.check_assignment_lists.Goals as goal

pub returns-then-z-n : goal.returns-then-z-n
returns-then-z-n c = simp (ne_eqb _ _ c.if-z-n.true)

pub returns-then-m-n : goal.returns-then-m-n
returns-then-m-n c = simp (eq-eqb _ _ c.if-z-n.false, eq-eqb _ _ c.if-m-n.true)

pub returns-else-m-n : goal.returns-else-m-n
returns-else-m-n c = simp (eq-eqb _ _ c.if-z-n.false, ne_eqb _ _ c.if-m-n.false)
