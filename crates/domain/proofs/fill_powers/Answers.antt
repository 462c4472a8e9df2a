-- `domain::fill_powers` meets its contract. Assumes nothing.
use Rattle.std.proofs.Common.{ℕ, length, sym, ap, ◌∙◌, add-one, arith}
use Rattle.algebra.specs.Ring.{pow}
use Rattle.field.specs.Element.{Elem, of, ◌⊗◌}
use Rattle.field.proofs.ElementLaws.{prime_ring, mul_comm}
use Rattle.field.proofs.Words.{of-result}
use Rattle.domain.proofs.Fill.{fill_none, rule_turn, rule_end}
use Rattle.domain.proofs.Qualification.{one_word}
use Rattle.domain.proofs.fill_powers.Goals as goal

pub loop-place-init : goal.loop-place-init
loop-place-init c q e = (sym (one_word q), fill_none _ _)

pub loop-place-preserved : goal.loop-place-preserved
loop-place-preserved c q e =
    let l = c.loop-place in
    let g : ℕ = c.args.g in
    let i : ℕ = l.place-index in
    let (last, filled) = l.invariant q e in
    let f : ℕ → Elem q = pow (prime_ring q) (of g) in (
      c.multiply-power.ensures q e
          ∙ ap (λ (y : Elem q). y.word)
          (ap (λ y. y ⊗ of g) (of-result (f i) last) ∙ mul_comm (f i) (of g) ∙ ap f (sym (add-one i))),
      rule_turn (length c.args.out.now) f l.out i l.power (omega arith) (omega arith) filled last,
    )

pub returns : goal.returns
returns c q e =
    let l = c.loop-place in
    rule_end (length c.args.out.now) (pow (prime_ring q) (of c.args.g)) l.out l.place-index (omega arith) (omega arith) (l.invariant q e).1
