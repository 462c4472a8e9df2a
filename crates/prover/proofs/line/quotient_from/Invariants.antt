-- What the loop of `prover::line::quotient_from` keeps. Assumes nothing.
use Rattle.std.proofs.Common.{◌≡◌, sym, ap, ap₂, ◌∙◌, List, map, ℕ, ◌+◌, ◌*◌, ◌≤◌, ◌<◌, arith, length, get_or}
use Rattle.std.proofs.lemmas.List.{length-map}
use Rattle.algebra.proofs.Division.{length-quotient}
use Rattle.algebra.proofs.PolynomialLaws.{length-add, length-scale}
use Rattle.field.specs.Prime.{Prime}
use Rattle.field.specs.Element.{Elem, of, ◌⊕◌, ◌⊗◌, words}
use Rattle.field.proofs.ElementLaws.{prime_ring}
use Rattle.domain.specs.Polynomial.{Poly, ◌⊞◌, ◌·◌, quotient}
use Rattle.domain.proofs.Fill.{Filled, length-words}
use Rattle.poly.proofs.Coefficients.{coefficient_add, coefficient_scale, short-quotient-at}
use Rattle.poly.proofs.WordLists.{element-at, made_at}
use Rattle.prover.proofs.line.quotient_from.Given as goal

-- what the slice is to hold, and its entries
module _ (q : Prime) (n mask : ℕ) (weights high m : List ℕ) where
  abbrev pub masked : Poly q
  masked = of mask · map of weights ⊞ map of high

  abbrev pub target : Poly q
  target = quotient n (map of m) ⊞ masked

  pub length_target : 0 < n → length weights ≡ n → length high ≤ n → length m ≡ 2 * n → length (words target) ≡ n
  length_target positive fits short double =
      omega (
        arith,
        length-words target,
        length-add (prime_ring q) (quotient n (map of m)) masked,
        length-quotient (prime_ring q) n (map of m) positive,
        length-add (prime_ring q) (of mask · map of weights) (map of high),
        length-scale (prime_ring q) (of mask) (map of weights),
        length-map weights (of {q = q}),
        length-map high (of {q = q}),
        length-map m (of {q = q}),
      )

  pub sum-at : 0 < n → length m ≡ 2 * n → {r : ℕ} (i : ℕ)
      → r ≡ (of (get_or m (n + i) 0) ⊕ (of {q = q} mask ⊗ of (get_or weights i 0) ⊕ of (get_or high i 0))).word
      → r ≡ get_or (words target) i 0
  sum-at positive double i made =
      let f : Poly q = map of m in
      made_at target i made
      (coefficient_add (prime_ring q) (quotient n f) masked i
      ∙ ap₂ ◌⊕◌
      (short-quotient-at (prime_ring q) n positive f (omega (arith, length-map m (of {q = q}))) i ∙ sym (element-at m (n + i)))
      (coefficient_add (prime_ring q) (of mask · map of weights) (map of high) i
      ∙ ap₂ ◌⊕◌
      (coefficient_scale (prime_ring q) (of mask) (map of weights) i ∙ ap (λ (x : Elem q). of mask ⊗ x) (sym (element-at weights i)))
      (sym (element-at high i))))

abbrev pub invariant-loop-i : goal.invariant-loop-i
invariant-loop-i l =
    (q : Prime) → q.p ≡ l.p → Filled (words (target q (length l.initial.out) l.mask l.weights l.high l.m)) l.out l.i
