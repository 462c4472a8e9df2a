-- What the code's transform gives for the words of a list at places a step apart, and that it is joined from what it gives for every
-- second of these places, also where two halves of a slice hold these; and what it gives for one word. Assumes nothing.
use mathlib.Core.Path.{◌≡◌, sym, ap, ap₂, ◌∙◌, subst⁻¹}
use mathlib.Core.List.{List, [], ◌∷◌, ◌++◌, map}
use Prim.Native.Nat.{ℕ, suc, ◌+◌, ◌*◌, ◌/◌, ◌^◌}
use native.Mathlib.Omega.{arith}
use native.Mathlib.Nat.{mul-zero, mul-one, mul-add, add-mul}
use lib.ListN.{length, get_or, length-append, length-map}
use Rattle.algebra.specs.Lists.{tabulate}
use Rattle.algebra.proofs.ListLaws.{tabulate_ext}
use Rattle.algebra.proofs.PolynomialLaws.{length-tabulate, get_d_tabulate, length-scale}
use Rattle.algebra.specs.Halving.{evens, odds, join, transform}
use Rattle.algebra.proofs.HalvingLaws.{twice, evens-tabulate, odds-tabulate}
use Rattle.field.specs.Prime.{Prime}
use Rattle.field.specs.Element.{Elem, of, 𝟘, ◌⊗◌, words}
use Rattle.field.proofs.ElementLaws.{prime_ring}
use Rattle.domain.specs.Polynomial.{◌·◌}
use Rattle.domain.proofs.Fill.{length-words}
use Rattle.domain.proofs.ListLaws.{equal-entries}
use Rattle.poly.proofs.Coefficients.{coefficient_scale}
use Rattle.poly.proofs.WordLists.{element-at}
use Rattle.transform.specs.Reading.{LevelOf, spread}

module _ {q : Prime} (factor : ℕ) (input : List ℕ) where
  -- the word at place i of the part, times the factor
  abbrev taken : ℕ → ℕ → ℕ → Elem q
  taken from step i = of factor ⊗ of (get_or input (from + step * i) 0)

  abbrev pub part : ℕ → Elem q → ℕ → ℕ → List (Elem q)
  part k w from step = transform (prime_ring q) k w (spread factor input from step (2 ^ k))

  even_places : (k from step : ℕ) → evens (tabulate (2 ^ suc k) (taken from step)) ≡ tabulate (2 ^ k) (taken from (step + step))
  even_places k from step =
      ap (λ n. evens (tabulate n (taken from step))) (twice k) ∙ evens-tabulate (2 ^ k) (taken from step)
      ∙ tabulate_ext (2 ^ k) _ _ (λ i l.
      let e : step * (i + i) ≡ (step + step) * i = mul-add step i i ∙ sym (add-mul step step i) in
      ap (λ n. of factor ⊗ of (get_or input (from + n) 0)) e)

  odd_places : (k from step : ℕ) → odds (tabulate (2 ^ suc k) (taken from step)) ≡ tabulate (2 ^ k) (taken (from + step) (step + step))
  odd_places k from step =
      ap (λ n. odds (tabulate n (taken from step))) (twice k) ∙ odds-tabulate (2 ^ k) (taken from step)
      ∙ tabulate_ext (2 ^ k) _ _ (λ i l.
      let e : from + step * (i + i + 1) ≡ from + step + (step + step) * i =
      omega (arith, mul-add step (i + i) 1, mul-add step i i, mul-one step, add-mul step step i) in
      ap (λ n. of factor ⊗ of (get_or input n 0)) e)

  pub part_single : (w : Elem q) (from step : ℕ) → part 0 w from step ≡ (of factor ⊗ of (get_or input from 0)) ∷ []
  unfolding transform
  part_single w from step =
      let e : from + step * 0 ≡ from = omega (arith, mul-zero step) in
      ap (λ n. (of factor ⊗ of (get_or input n 0)) ∷ []) e

  part-joined : (k : ℕ) (w : Elem q) (from step : ℕ)
      → join (prime_ring q) (2 ^ k) w (part k (w ⊗ w) from (step + step)) (part k (w ⊗ w) (from + step) (step + step)) ≡ part (suc k) w
      from step
  unfolding transform
  part-joined k w from step =
      ap₂ (join (prime_ring q) (2 ^ k) w)
      (ap (transform (prime_ring q) k (w ⊗ w)) (sym (even_places k from step)))
      (ap (transform (prime_ring q) k (w ⊗ w)) (sym (odd_places k from step)))

  -- a slice whose halves hold the parts of the even and of the odd places, once they are joined with a level of the table
  pub halves_joined : (k : ℕ) (w : Elem q) (from step : ℕ) (powers first second before after : List ℕ)
      → length first ≡ 2 ^ k → length second ≡ 2 ^ k → before ≡ first ++ second
      → first ≡ words (part k (w ⊗ w) from (step + step)) → second ≡ words (part k (w ⊗ w) (from + step) (step + step))
      → LevelOf (2 ^ k) w powers
      → (LevelOf (length before / 2) w powers → (e o : List (Elem q)) → length e ≡ length before / 2 → length o ≡ length before / 2
      → before ≡ words e ++ words o → after ≡ words (join (prime_ring q) (length before / 2) w e o))
      → after ≡ words (part (suc k) w from step)
  halves_joined k w from step powers first second before after first-length second-length two is-even is_odd level joined =
      let even : List (Elem q) = part k (w ⊗ w) from (step + step) in
      let odd : List (Elem q) = part k (w ⊗ w) (from + step) (step + step) in
      let half : length before / 2 ≡ 2 ^ k = omega (arith, ap length two, length-append first second) in
      joined (subst⁻¹ (λ (m : ℕ). LevelOf m w powers) half level) even odd
      (sym (length-words even) ∙ ap length (sym is-even) ∙ first-length ∙ sym half)
      (sym (length-words odd) ∙ ap length (sym is_odd) ∙ second-length ∙ sym half)
      (two ∙ ap₂ ◌++◌ is-even is_odd)
      ∙ ap (λ (m : ℕ). words (join (prime_ring q) m w even odd)) half
      ∙ ap words (part-joined k w from step)

  -- the part that is the whole list
  pub part-whole : (k : ℕ) (w : Elem q) → length input ≡ 2 ^ k → part k w 0 1 ≡ transform (prime_ring q) k w (of factor · map of input)
  part-whole k w size =
      ap (transform (prime_ring q) k w)
      (equal-entries 𝟘 _ _
      (length-tabulate (2 ^ k) (taken 0 1) ∙ sym size ∙ sym (length-map input (of {q = q})) ∙ sym
      (length-scale (prime_ring q) (of factor) (map of input)))
      (λ i l.
      let place : 0 + 1 * i ≡ i = omega arith in
      get_d_tabulate (2 ^ k) i (taken 0 1) 𝟘 (omega (arith, length-tabulate (2 ^ k) (taken 0 1)))
      ∙ ap (λ (n : ℕ). of factor ⊗ of (get_or input n 0)) place ∙ ap (λ (x : Elem q). of factor ⊗ x) (element-at input i)
      ∙ sym (coefficient_scale (prime_ring q) (of factor) (map of input) i)))
