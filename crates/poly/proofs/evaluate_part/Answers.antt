-- `poly::evaluate_part` meets its contract: the sum and the power are those after the first i coefficients. Assumes nothing.
use Rattle.std.proofs.Common.{◌≡◌, sym, ap, ap₂, ◌∙◌, List, ℕ, ◌<◌, arith, add-one, get_or}
use mathlib.Core.Path.{subst⁻¹}
use Rattle.algebra.specs.Polynomial.{Running, running, map_running}
use Rattle.algebra.proofs.PartLaws.{part_none}
use Rattle.field.specs.Element.{Elem, of, word_of, ◌⊕◌, ◌⊗◌}
use Rattle.field.proofs.ElementLaws.{prime_ring, add_comm}
use Rattle.field.proofs.Words.{of-result}
use Rattle.domain.proofs.RunningWords.{words_back, one_more}
use Rattle.poly.specs.Meanings.{under_way}
use Rattle.poly.proofs.evaluate_part.Invariants.{after}
use Rattle.poly.proofs.evaluate_part.Goals as goal

pub loop-coefficient-init : goal.loop-coefficient-init
loop-coefficient-init c q e below =
    let a = c.args in
    let r : Running ℕ = under_way a.running in
    sym
    (ap (map_running word_of) (part_none (prime_ring q) (map_running of r) (of a.x))
    ∙ words_back q r (subst⁻¹ (λ (n : ℕ). r.sum < n) e below.0) (subst⁻¹ (λ (n : ℕ). r.power < n) e below.1))

pub loop-coefficient-preserved : goal.loop-coefficient-preserved
loop-coefficient-preserved c q e below =
    let l = c.loop-coefficient in
    let i : ℕ = l.coefficient-index in
    let a = c.args in
    let r : Running ℕ = under_way a.running in
    let part : List ℕ = a.part.now in
    let so_far : Running (Elem q) = after q r a.x part i in
    let coefficient : Elem q = of (get_or part i 0) in
    let sum : of l.sum ≡ so_far.sum = of-result so_far.sum (ap (λ (r : Running ℕ). r.sum) (l.invariant q e below)) in
    let power : of l.power ≡ so_far.power = of-result so_far.power (ap (λ (r : Running ℕ). r.power) (l.invariant q e below)) in
    ap₂ running
    (c.multiply_add-sum.ensures q e ∙ ap₂ (λ (y z : Elem q). (y ⊗ coefficient ⊕ z).word) power sum
    ∙ ap (λ (y : Elem q). y.word) (add_comm (so_far.power ⊗ coefficient) so_far.sum))
    (c.multiply-power.ensures q e ∙ ap (λ (y : Elem q). (y ⊗ of a.x).word) power)
    ∙ ap (map_running word_of)
    (one_more (map_running of r) (of a.x) part i (omega arith) ∙ ap (after q r a.x part) (sym (add-one i)))
