-- `field::multiply_prepared` meets its contract. Assumes nothing.
use Rattle.std.proofs.Common.{ℕ, ◌*◌, ◌%◌, ◌^◌, sym, ap, ◌∙◌, arith}
use Rattle.field.proofs.Words.{word_multiply, product-below}
use Rattle.field.proofs.Prepared.{left_below, left_above}
use Rattle.field.proofs.multiply_prepared.Goals as goal

pub returns-then-low-p : goal.returns-then-low-p
returns-then-low-p c q e small below prepared =
    let a = c.args in
    left_below (2 ^ 64) 4294967296 a.p a.w a.x (omega arith) (omega arith) (omega arith)
    (product-below 32 (omega arith) (omega arith)) (cc) c.if-low-p.true
    ∙ ap (λ (n : ℕ). (a.w * a.x) % n) (sym e) ∙ sym (word_multiply q a.w a.x)

pub returns-else-low-p : goal.returns-else-low-p
returns-else-low-p c q e small below prepared =
    let a = c.args in
    left_above (2 ^ 64) 4294967296 a.p a.w a.x (omega arith) (omega arith) (omega arith)
    (product-below 32 (omega arith) (omega arith)) (cc) c.if-low-p.false
    ∙ ap (λ (n : ℕ). (a.w * a.x) % n) (sym e) ∙ sym (word_multiply q a.w a.x)
