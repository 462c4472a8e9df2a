-- What the loop of `prover::line::remainder_from` keeps. Assumes nothing.
use mathlib.Core.List.{tail}
use Rattle.std.proofs.Common.{◌≡◌, refl, sym, ap, ap₂, ◌∙◌, List, [], ◌∷◌, map, ℕ, ◌+◌, ◌-◌, ◌*◌, ◌<◌, arith, add-one, length, get_or}
use Rattle.std.proofs.lemmas.List.{length-map}
use Rattle.algebra.proofs.Division.{length-remainder}
use Rattle.algebra.proofs.PolynomialLaws.{length-add}
use Rattle.field.specs.Prime.{Prime}
use Rattle.field.specs.Element.{of, 𝟘, ◌⊕◌, words}
use Rattle.field.proofs.ElementLaws.{prime_ring}
use Rattle.domain.specs.Polynomial.{Poly, ◌⊞◌, remainder}
use Rattle.domain.proofs.Fill.{Filled, length-words}
use Rattle.poly.proofs.Coefficients.{coefficient_add, short-remainder-at}
use Rattle.poly.proofs.WordLists.{element-at, made_at}
use Rattle.prover.proofs.line.remainder_from.Given as goal

-- what the slice is to hold, and its entries
module _ (q : Prime) (rest m : List ℕ) where
  abbrev pub whole : Poly q
  whole = remainder (length rest) (map of m) ⊞ map of rest

  pub length_whole : length whole ≡ length rest
  length_whole =
      omega (
        arith,
        length-add (prime_ring q) (remainder (length rest) (map of m)) (map of rest),
        length-remainder (prime_ring q) (length rest) (map of m),
        length-map rest (of {q = q}),
      )

  pub length-tail : (l : Poly q) → length (words (tail l)) ≡ length l - 1
  length-tail [] = refl
  length-tail (a ∷ l) = length-words l ∙ omega arith

  pub length_target : length (words (tail whole)) ≡ length rest - 1
  length_target = length-tail whole ∙ ap (λ (n : ℕ). n - 1) length_whole

  pub tail_at : (l : Poly q) (i : ℕ) → get_or (tail l) i 𝟘 ≡ get_or l (i + 1) 𝟘
  tail_at [] i = refl
  tail_at (a ∷ l) i = rw add-one refl

  pub sum-at : length m ≡ 2 * length rest → {r : ℕ} (i : ℕ) → i + 1 < length rest
      → r ≡ (of (get_or m (i + 1) 0) ⊕ of (get_or m (length rest + (i + 1)) 0) ⊕ of {q = q} (get_or rest (i + 1) 0)).word
      → r ≡ get_or (words (tail whole)) i 0
  sum-at double i below made =
      let n : ℕ = length rest in
      let f : Poly q = map of m in
      made_at (tail whole) i made
      (tail_at whole i ∙ coefficient_add (prime_ring q) (remainder n f) (map of rest) (i + 1)
      ∙ ap₂ ◌⊕◌
      (short-remainder-at (prime_ring q) n (omega arith) f (omega (arith, length-map m (of {q = q}))) (i + 1) below
      ∙ ap₂ ◌⊕◌ (sym (element-at m (i + 1))) (sym (element-at m (n + (i + 1)))))
      (sym (element-at rest (i + 1))))

abbrev pub invariant-loop-i : goal.invariant-loop-i
invariant-loop-i l = (q : Prime) → q.p ≡ l.p → Filled (words (tail (whole q l.rest l.m))) l.out l.i
