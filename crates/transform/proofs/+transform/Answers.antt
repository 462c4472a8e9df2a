-- `transform::transform` meets its contract: the two calls on the halves of the slice leave the two parts, and they are joined. The
-- measure is the length of the slice. Assumes nothing.
use mathlib.Core.Path.{◌≡◌, sym, ap, ◌∙◌, subst⁻¹}
use mathlib.Core.Bool.{true}
use mathlib.Core.List.{List, [], ◌∷◌, ◌++◌}
use Prim.Native.Nat.{ℕ, suc, ◌+◌, ◌-◌, ◌*◌, ◌/◌, ◌≤◌, ◌<◌}
use native.Mathlib.Omega.{arith}
use lib.ListN.{length, take, drop, length-append}
use lib.Seq.{length-take-le}
use Rattle.field.specs.Element.{Elem, ◌⊗◌, words}
use Rattle.domain.specs.Size.{is_size}
use Rattle.transform.specs.Reading.{Levels}
use Rattle.transform.proofs.Halves.{halved, exponent_none, exponent_less, one_set, second-length, both_halves}
use Rattle.transform.proofs.Parts.{part, part_single, halves_joined}
use Rattle.transform.proofs.+transform.Goals as goal

-- what is asked of a call on a half, whose length n is h
asked : (t p from step m powers quotients h n whole : ℕ) → n ≡ h → h < t → h ≤ whole → 0 < p → is_size h ≡ true
    → from + (step + step) * (h - 1) < m → whole ≤ powers → whole ≤ quotients
    → (n < t) × ((0 < p) × ((is_size n ≡ true) × ((from + (step + step) * (n - 1) < m) × ((n ≤ powers) × (n ≤ quotients)))))
asked t p from step m powers quotients h n whole e less fewer positive size within in-powers in-quotients = (
  omega arith,
  (
    positive,
    (
      ap is_size e ∙ size,
      (subst⁻¹ (λ (n : ℕ). from + (step + step) * (n - 1) < m) e within, (omega arith, omega arith)),
    ),
  ),
)

-- the slice d of two halves of length h, of which a call has left the list first in the first half, and one the list second in the other
module _ (h : ℕ) (d first : List ℕ) (two : length d ≡ h + h) (first-same : length first ≡ length (take h d)) where
  -- what the first call left is as long as half
  first-kept : length first ≡ h
  first-kept = first-same ∙ length-take-le h d (omega arith)

  abbrev left : List ℕ
  left = first ++ drop h d

  abbrev rest : List ℕ
  rest = take (length left - h) (drop h left)

  rest_length : length rest ≡ h
  rest_length = second-length h d first two first-kept

  module _ (second : List ℕ) (second-same : length second ≡ length rest) where
    abbrev both : List ℕ
    both = take h left ++ (second ++ drop (length left - h) (drop h left))

    second-kept : length second ≡ h
    second-kept = second-same ∙ rest_length

    -- after both calls the slice is what they left, one after the other
    both_in : both ≡ first ++ second
    both_in = both_halves h d first two first-kept second second-kept

    both_length : length both ≡ length d
    both_length = ap length both_in ∙ length-append first second ∙ omega (arith, first-kept, second-kept, two)

pub returns-then-out-eq1 : goal.returns-then-out-eq1
returns-then-out-eq1 t c q e small w k size levels prepared =
    let a = c.args in
    let one : length a.out.now ≡ 1 = c.if-out-eq1.true in
    one_set a.out.now c.multiply.result one
    ∙ ap (λ (word : ℕ). word ∷ []) (c.multiply.ensures q e)
    ∙ ap words (sym (part_single a.factor a.input.now w a.from a.step))
    ∙ ap (λ (j : ℕ). words (part a.factor a.input.now j w a.from a.step)) (sym (exponent_none k (sym size ∙ one)))

pub overflow_add-twice : goal.overflow_add-twice
overflow_add-twice t c =
    let a = c.args in
    let h =
    halved (length a.out.now) a.from a.step (length a.input.now) c.requires.out_value c.if-out-eq1.false c.requires.out_in_bounds in
    omega (arith, h.room)

pub overflow_add-next : goal.overflow_add-next
overflow_add-next t c =
    let a = c.args in
    let h =
    halved (length a.out.now) a.from a.step (length a.input.now) c.requires.out_value c.if-out-eq1.false c.requires.out_in_bounds in
    omega (arith, h.room)

pub transform-requires : goal.transform-requires
transform-requires t c =
    let a = c.args in
    let d : List ℕ = a.out.now in
    let h = halved (length d) a.from a.step (length a.input.now) c.requires.out_value c.if-out-eq1.false c.requires.out_in_bounds in
    asked t a.p a.from a.step (length a.input.now) (length a.powers.now) (length a.quotients.now) (length d / 2)
    (length (take (length d / 2) d)) (length d) (length-take-le (length d / 2) d (omega arith))
    (omega (arith, c.decreases, h.doubled, h.some))
    (omega arith) c.requires.p_nonzero h.size h.even c.requires.out_in_bounds_2.0 c.requires.out_in_bounds_2.1

pub transform-requires-2 : goal.transform-requires-2
transform-requires-2 t c =
    let a = c.args in
    let d : List ℕ = a.out.now in
    let h = halved (length d) a.from a.step (length a.input.now) c.requires.out_value c.if-out-eq1.false c.requires.out_in_bounds in
    asked t a.p (a.from + a.step) a.step (length a.input.now) (length a.powers.now) (length a.quotients.now)
    (length d / 2) _
    (length d) (rest_length (length d / 2) d c.transform.new.out h.doubled c.transform.auto.out)
    (omega (arith, c.decreases, h.doubled, h.some)) (omega arith) c.requires.p_nonzero h.size h.odd
    c.requires.out_in_bounds_2.0 c.requires.out_in_bounds_2.1

pub join-requires : goal.join-requires
join-requires t c =
    let a = c.args in
    let d : List ℕ = a.out.now in
    let h = halved (length d) a.from a.step (length a.input.now) c.requires.out_value c.if-out-eq1.false c.requires.out_in_bounds in
    let same =
    both_length (length d / 2) d c.transform.new.out h.doubled c.transform.auto.out c.transform-2.new.out c.transform-2.auto.out in
    record {
      in_bounds = subst⁻¹ (λ (n : ℕ). 1 < n) same (omega (arith, h.doubled, h.some));
      out_in_bounds = (
        subst⁻¹ (λ (n : ℕ). n ≤ length a.powers.now) same c.requires.out_in_bounds_2.0,
        subst⁻¹ (λ (n : ℕ). n ≤ length a.quotients.now) same c.requires.out_in_bounds_2.1,
      );
    }

pub shape_of-out : goal.shape_of-out
shape_of-out t c =
    let a = c.args in
    let d : List ℕ = a.out.now in
    let h = halved (length d) a.from a.step (length a.input.now) c.requires.out_value c.if-out-eq1.false c.requires.out_in_bounds in
    c.join.auto.out
    ∙ both_length (length d / 2) d c.transform.new.out h.doubled c.transform.auto.out c.transform-2.new.out c.transform-2.auto.out

pub returns : goal.returns
returns t c q e small w k size levels prepared =
    let a = c.args in
    let d : List ℕ = a.out.now in
    let n : ℕ = length d in
    let h = halved (length d) a.from a.step (length a.input.now) c.requires.out_value c.if-out-eq1.false c.requires.out_in_bounds in
    let first : List ℕ = c.transform.new.out in
    let second : List ℕ = c.transform-2.new.out in
    let first-same = c.transform.auto.out in
    let second-same = c.transform-2.auto.out in
    let (exponent, half) = exponent_less n k size c.if-out-eq1.false in
    let levels-both : Levels (suc (k - 1)) w a.powers.now = subst⁻¹ (λ (j : ℕ). Levels j w a.powers.now) exponent levels in
    let even : List (Elem q) = part a.factor a.input.now (k - 1) (w ⊗ w) a.from (a.step + a.step) in
    let odd : List (Elem q) = part a.factor a.input.now (k - 1) (w ⊗ w) (a.from + a.step) (a.step + a.step) in
    let is-even : first ≡ words even =
    c.transform.ensures q e small (w ⊗ w) (k - 1) (length-take-le (n / 2) d (omega arith) ∙ half) levels-both.1 prepared in
    let is_odd : second ≡ words odd =
    c.transform-2.ensures q e small (w ⊗ w) (k - 1) (rest_length (n / 2) d first h.doubled first-same ∙ half)
    levels-both.1 prepared in
    halves_joined a.factor a.input.now (k - 1) w a.from a.step a.powers.now _ _ _ _
    (first-kept (n / 2) d first h.doubled first-same ∙ half)
    (second-kept (n / 2) d first h.doubled first-same second second-same ∙ half)
    (both_in (n / 2) d first h.doubled first-same second second-same) is-even is_odd levels-both.0
    (λ level. c.join.ensures q e small w level prepared)
    ∙ ap (λ (j : ℕ). words (part a.factor a.input.now j w a.from a.step)) exponent
