-- `domain::lagrange_values_into` meets its contract: the call on the first half of the slice leaves the values of half the size, which
-- are doubled. The measure is the length of the slice. Assumes nothing.
use mathlib.Core.Path.{◌≡◌, sym, ap, ap₂, ◌∙◌}
use mathlib.Core.Bool.{true}
use mathlib.Core.List.{List, ◌++◌}
use Prim.Native.Nat.{ℕ, ◌/◌, ◌<◌}
use native.Mathlib.Omega.{arith}
use lib.ListN.{length, take, drop, set, length-set, length-append, length-drop}
use lib.Seq.{length-take-le, take_at}
use Rattle.algebra.specs.Lists.{tabulate}
use Rattle.field.specs.Prime.{Prime}
use Rattle.field.specs.Element.{Elem, of, ◌⊗◌, words}
use Rattle.field.proofs.Words.{of-result}
use Rattle.domain.specs.Size.{is_size}
use Rattle.domain.specs.Domain.{root}
use Rattle.domain.specs.Qualifies.{Qualifies}
use Rattle.domain.proofs.Qualification.{one_word, known-qualifies}
use Rattle.domain.proofs.SizeLaws.{size_positive, size_bound, size_halves}
use Rattle.domain.proofs.Fill.{fill_none, rule_turn, rule_end}
use Rattle.domain.proofs.LagrangeHalving.{lagrange_at, lagrange_one}
use Rattle.domain.proofs.+lagrange_values_into.Goals as goal

-- one word is the value of the domain of size 1
one_set : {q : Prime} → Qualifies q → (y : Elem q) (d : List ℕ) → length d ≡ 1 → is_size (length d) ≡ true
    → set d 0 1 ≡ words (tabulate (length d) (lagrange_at (length d) y))
one_set {q} Q y d one size =
    rule_end 1 (lagrange_at 1 y) (set d 0 1) 1 (length-set d 0 1 ∙ one) (omega arith)
    (rule_turn 1 (lagrange_at 1 y) d 0 1 one (omega arith) (fill_none _ d)
    (sym (ap (λ (x : Elem q). x.word) (lagrange_one Q (ap is_size (sym one) ∙ size) y) ∙ one_word q)))
    ∙ ap (λ (n : ℕ). words (tabulate n (lagrange_at n y))) (sym one)

-- where the slice is longer than a word it has two halves
many : (d : List ℕ) → is_size (length d) ≡ true → (length d ≡ 1 → ⊥) → 1 < length d
many d size other = omega (arith, other, size_positive (length d) size)

half_length : (d : List ℕ) → length (take (length d / 2) d) ≡ length d / 2
half_length d = length-take-le (length d / 2) d (omega arith)

-- the slice after the call on its first half has the length that it had
whole_length : (d first : List ℕ) → length first ≡ length (take (length d / 2) d) → length (first ++ drop (length d / 2) d) ≡ length d
whole_length d first same =
    omega (arith, length-append first (drop (length d / 2) d), length-drop (length d / 2) d, same, half_length d)

pub returns-then-out-eq1 : goal.returns-then-out-eq1
returns-then-out-eq1 t c q K =
    one_set (known-qualifies K) (of c.args.y) c.args.out.now c.if-out-eq1.true c.requires.out_value

pub overflow_cast-n : goal.overflow_cast-n
overflow_cast-n t c = omega (arith, size_bound (length c.args.out.now) c.requires.out_value)

pub lagrange_values_into-requires : goal.lagrange_values_into-requires
lagrange_values_into-requires t c =
    let d : List ℕ = c.args.out.now in
    let longer = many d c.requires.out_value c.if-out-eq1.false in
    let (two, size) = size_halves (length d) c.requires.out_value longer in (
      omega (arith, half_length d, longer, c.decreases),
      (c.requires.lt_p, ap is_size (half_length d) ∙ size),
    )

pub double_lagrange-requires-clause-out_value : goal.double_lagrange-requires-clause-out_value
double_lagrange-requires-clause-out_value t c =
    let d : List ℕ = c.args.out.now in
    let whole = whole_length d c.lagrange_values_into.new.out c.lagrange_values_into.auto.out in
    (ap is_size whole ∙ c.requires.out_value, omega (arith, whole, many d c.requires.out_value c.if-out-eq1.false))

pub returns : goal.returns
returns t c q K =
    let d : List ℕ = c.args.out.now in
    let first : List ℕ = c.lagrange_values_into.new.out in
    let h : ℕ = length d / 2 in
    let y : Elem q = of c.args.y in
    let w : List ℕ = first ++ drop h d in
    let same : length w ≡ length d = whole_length d first c.lagrange_values_into.auto.out in
    let first_long : length first ≡ h = c.lagrange_values_into.auto.out ∙ half_length d in
    let is-first : first ≡ words (tabulate h (lagrange_at h (y ⊗ y))) =
    c.lagrange_values_into.ensures q K
    ∙ ap₂ (λ (n : ℕ) (x : Elem q). words (tabulate n (lagrange_at n x))) (half_length d)
    (of-result (y ⊗ y) (c.multiply.ensures q K.value)) in
    c.double_lagrange.ensures q (known-qualifies K) K.value
    (c.root_of-g.ensures q K ∙ ap (λ (n : ℕ). (root {q = q} n).word) (sym same))
    (ap (λ (n : ℕ). take (n / 2) w) same ∙ take_at first (drop h d) h first_long ∙ is-first
    ∙ ap (λ (n : ℕ). words (tabulate (n / 2) (lagrange_at (n / 2) (y ⊗ y)))) (sym same))
    ∙ ap (λ (n : ℕ). words (tabulate n (lagrange_at n y))) same
