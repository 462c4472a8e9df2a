-- `matrix_sumcheck::joined::distances_into` meets its contract: the entries below i are filled, and the power is the i-th. Assumes nothing.
use Rattle.std.proofs.Common.{◌≡◌, sym, ap, ◌∙◌, ℕ, ◌+◌, arith, add-one, length}
use Rattle.algebra.specs.Ring.{pow}
use Rattle.field.specs.Prime.{Prime}
use Rattle.field.specs.Element.{Elem, of, ◌⊗◌, ◌⊖◌}
use Rattle.field.proofs.ElementLaws.{prime_ring, mul_comm}
use Rattle.field.proofs.Words.{of-result}
use Rattle.domain.specs.Domain.{root, element}
use Rattle.domain.proofs.SizeLaws.{size_bound}
use Rattle.domain.proofs.Fill.{fill_none, rule_turn, rule_end}
use Rattle.domain.proofs.Qualification.{one_word}
use Rattle.matrix_sumcheck.proofs.joined.distances_into.Goals as goal

-- what the slice is to hold
abbrev rule : (q : Prime) → ℕ → ℕ → ℕ → Elem q
rule q n y i = of n ⊗ (of y ⊖ element n i)

-- the next power
next : (q : Prime) (n : ℕ) {power g r : ℕ} (i : ℕ) → power ≡ (element {q = q} n i).word → g ≡ (root {q = q} n).word
    → r ≡ (of {q = q} power ⊗ of g).word → r ≡ (element {q = q} n (i + 1)).word
unfolding element
next q n {g = g} i last generator made =
    made
    ∙ ap (λ (y : Elem q). y.word)
    (ap (λ (y : Elem q). y ⊗ of g) (of-result (pow (prime_ring q) (root n) i) last)
    ∙ ap (λ (y : Elem q). pow (prime_ring q) (root n) i ⊗ y) (of-result (root n) generator)
    ∙ mul_comm (pow (prime_ring q) (root n) i) (root n) ∙ ap (pow (prime_ring q) (root n)) (sym (add-one i)))

first : (q : Prime) (n : ℕ) → 1 ≡ (element {q = q} n 0).word
unfolding element
first q n = sym (one_word q)

pub overflow_cast-n : goal.overflow_cast-n
overflow_cast-n c = omega (arith, size_bound _ c.requires.out_value)

pub loop-word-init : goal.loop-word-init
loop-word-init c q known = (first q (length c.args.out.now), fill_none _ _)

pub loop-word-preserved : goal.loop-word-preserved
loop-word-preserved c q known =
    let l = c.loop-word in
    let a = c.args in
    let n : ℕ = length a.out.now in
    let (last, filled) = l.invariant q known in (
      next q n l.word-index last (c.root_of-g.ensures q known) (c.multiply-power.ensures q known.value),
      rule_turn n (rule q n a.y) l.out l.word-index c.multiply.result l.auto.out (omega arith) filled
          (c.multiply.ensures q known.value
          ∙ ap (λ (x : Elem q). (of n ⊗ x).word)
          (of-result _ (c.subtract.ensures q known.value)
          ∙ ap (λ (x : Elem q). of a.y ⊖ x) (of-result (element n l.word-index) last))),
    )

pub returns : goal.returns
returns c q known =
    let l = c.loop-word in
    let n : ℕ = length c.args.out.now in
    rule_end n (rule q n c.args.y) l.out l.word-index l.auto.out (omega arith) (l.invariant q known).1
