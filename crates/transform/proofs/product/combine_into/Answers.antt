-- `transform::product::combine_into` meets its contract: the entries below i are filled, and the power is the i-th. Assumes nothing.
use Rattle.std.proofs.Common.{◌≡◌, sym, ap, ◌∙◌, List, ℕ, arith, length, get_or}
use Rattle.algebra.specs.Lists.{tabulate}
use Rattle.algebra.specs.Ring.{pow}
use Rattle.field.specs.Element.{Elem, of, ◌⊗◌, ◌⊖◌, words}
use Rattle.field.proofs.ElementLaws.{prime_ring}
use Rattle.field.proofs.Words.{of-result}
use Rattle.domain.proofs.Fill.{fill_none, fill_turn, fill_end, length_rule_words, rule_word-at}
use Rattle.domain.proofs.Qualification.{one_word}
use Rattle.transform.proofs.CosetWords.{next_power}
use Rattle.transform.proofs.product.combine_into.Invariants.{rule}
use Rattle.transform.proofs.product.combine_into.Goals as goal

pub loop-i-init : goal.loop-i-init
loop-i-init c q e = (sym (one_word q), fill_none _ _)

pub loop-i-preserved : goal.loop-i-preserved
loop-i-preserved c q e =
    let a = c.args in
    let l = c.loop-i in
    let product = c.multiply in
    let difference = c.subtract-difference in
    let made = c.multiply-in-loop-i in
    let n : ℕ = length a.out.now in
    let plain : List ℕ = a.plain.now in
    let turned : List ℕ = a.turned.now in
    let (last, filled) = l.invariant q e in
    let w : Elem q = of a.s in
    let f : ℕ → Elem q = rule q a.s a.share plain turned in
    let power : of l.power ≡ pow (prime_ring q) w l.i = of-result (pow (prime_ring q) w l.i) last in (
      next_power w l.i last (c.multiply-power.ensures q e),
      fill_turn (words (tabulate n f)) l.out l.i made.result (omega arith) (omega (arith, length_rule_words n f)) filled
          (made.ensures q e
          ∙ ap (λ (x : Elem q). (x ⊗ of a.share).word)
          (of-result _ (difference.ensures q e)
          ∙ ap (λ (x : Elem q). x ⊖ of (get_or plain l.i 0))
          (of-result _ (product.ensures q e) ∙ ap (λ (x : Elem q). x ⊗ of (get_or turned l.i 0)) power))
          ∙ sym (rule_word-at n f l.i (omega arith))),
    )

pub returns : goal.returns
returns c q e =
    let a = c.args in
    let l = c.loop-i in
    let n : ℕ = length a.out.now in
    let f : ℕ → Elem q = rule q a.s a.share a.plain.now a.turned.now in
    fill_end (words (tabulate n f)) l.out l.i (omega arith) (omega (arith, length_rule_words n f)) (l.invariant q e).1
