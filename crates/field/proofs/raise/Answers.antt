-- `field::raise` meets its contract: the result so far, times the power that is left, is the power asked. Assumes nothing.
use Rattle.std.proofs.Common.{◌≡◌, ℕ, ◌/◌, sym, ap, ◌∙◌, ap₂, arith}
use Rattle.algebra.specs.Ring.{pow}
use Rattle.algebra.proofs.RingLaws.{one_mul}
use Rattle.field.specs.Element.{Elem, of, ◌⊗◌}
use Rattle.field.specs.Power.{power}
use Rattle.field.proofs.ElementLaws.{mul_assoc, mul_one, prime_ring}
use Rattle.field.proofs.Field.{pow_even, pow_odd, power-is-pow}
use Rattle.field.proofs.Words.{of-result, result-below, word-of}
use Rattle.field.proofs.raise.Goals as goal
use Rattle.field.proofs.raise.Goals.{then-rest-eq1, else-rest-eq1}

pub loop-rest-init : goal.loop-rest-init
loop-rest-init c q e = (one_mul (prime_ring q) _, omega arith)

pub loop-rest-preserved : goal.loop-rest-preserved
loop-rest-preserved c q e =
    let l = c.loop-rest in
    let n : ℕ = l.rest in
    let x : Elem q = of l.result in
    let b : Elem q = of l.base in
    let (product, below) = l.invariant q e in
    let square : of c.multiply-base.result ≡ b ⊗ b = of-result (b ⊗ b) (c.multiply-base.ensures q e) in
    elim c.if-rest-eq1.branch [
      | then-rest-eq1 w ↦
          let made : c.if-rest-eq1.result ≡ (x ⊗ b).word = w.result-is ∙ w.multiply-result.ensures q e in (
            ap₂ (λ (y z : Elem q). y ⊗ pow (prime_ring q) z (n / 2)) (of-result (x ⊗ b) made) square
                ∙ mul_assoc x b _ ∙ ap (λ (y : Elem q). x ⊗ y) (sym (pow_odd b n w.if-rest-eq1.true)) ∙ product,
            result-below (x ⊗ b) made,
          )
      | else-rest-eq1 w ↦ (
        ap₂ (λ (y z : Elem q). y ⊗ pow (prime_ring q) z (n / 2)) (ap of w.result-is) square
            ∙ ap (λ (y : Elem q). x ⊗ y) (sym (pow_even b n (omega (arith, w.if-rest-eq1.false)))) ∙ product,
        omega (arith, w.result-is, below),
      )
    ]

pub returns : goal.returns
returns c q e =
    let l = c.loop-rest in
    let done : l.rest ≡ 0 = omega arith in
    let (product, below) = l.invariant q e in
    let whole : of l.result ≡ power (of c.args.a) c.args.n =
    sym (mul_one (of l.result)) ∙ ap (λ (n : ℕ). of l.result ⊗ pow (prime_ring q) (of l.base) n) (sym done) ∙ product
    ∙ sym (power-is-pow (of c.args.a) c.args.n) in
    sym (word-of q l.result below) ∙ ap (λ (y : Elem q). y.word) whole
