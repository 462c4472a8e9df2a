-- `transform::product::twist_into` meets its contract: the entries below i are filled, and the power is the i-th. Assumes nothing.
use Rattle.std.proofs.Common.{◌≡◌, sym, ap₂, ◌∙◌, List, map, ℕ, arith, length, get_or}
use lib.ListN.{length-map}
use Rattle.algebra.specs.Ring.{pow}
use Rattle.field.specs.Prime.{Prime}
use Rattle.field.specs.Element.{Elem, of, 𝟘, ◌⊗◌}
use Rattle.field.proofs.ElementLaws.{prime_ring}
use Rattle.field.proofs.Words.{of-result}
use Rattle.domain.proofs.Fill.{fill_none, rule_turn, rule_end}
use Rattle.domain.proofs.Qualification.{one_word}
use Rattle.poly.proofs.WordLists.{element-at}
use Rattle.transform.proofs.CosetWords.{next_power}
use Rattle.transform.proofs.product.twist_into.Goals as goal

-- coefficient i of what the slice is to hold
abbrev rule : (q : Prime) → ℕ → List ℕ → ℕ → Elem q
rule q s f i = pow (prime_ring q) (of s) i ⊗ get_or (map of f) i 𝟘

pub loop-i-init : goal.loop-i-init
loop-i-init c q e = (sym (one_word q), fill_none _ _)

pub loop-i-preserved : goal.loop-i-preserved
loop-i-preserved c q e =
    let a = c.args in
    let l = c.loop-i in
    let made = c.multiply in
    let f : List ℕ = a.f.now in
    let (last, filled) = l.invariant q e in
    let w : Elem q = of a.s in
    let same : length (map (of {q = q}) f) ≡ length f = length-map f (of {q = q}) in (
      next_power w l.i last (c.multiply-power.ensures q e),
      rule_turn (length (map (of {q = q}) f)) (rule q a.s f) l.out l.i made.result (omega arith) (omega arith) filled
          (made.ensures q e
          ∙ ap₂ (λ (x y : Elem q). (x ⊗ y).word) (of-result (pow (prime_ring q) w l.i) last) (element-at f l.i)),
    )

pub returns : goal.returns
returns c q e =
    let a = c.args in
    let l = c.loop-i in
    let f : List ℕ = a.f.now in
    let same : length (map (of {q = q}) f) ≡ length f = length-map f (of {q = q}) in
    rule_end (length (map (of {q = q}) f)) (rule q a.s f) l.out l.i (omega arith) (omega arith) (l.invariant q e).1
