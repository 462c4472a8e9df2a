-- How many elements there are, and how many of them lie outside a domain. Assumes nothing.
use mathlib.Core.Path.{◌≡◌, sym, ap, ◌∙◌}
use mathlib.Core.Logic.{◌≢◌}
use mathlib.Core.Bool.{true, true≢false}
use mathlib.Core.List.{List, ◌++◌}
use Prim.Native.Nat.{ℕ, ◌-◌, ◌<◌}
use native.Mathlib.Omega.{arith}
use lib.ListN.{length-append}
use Rattle.algebra.specs.Counting.{All, AtMost, Exactly}
use Rattle.algebra.specs.Lists.{tabulate}
use Rattle.algebra.proofs.Counting.{all_of, all_map, all-tabulate, distinct_append, distinct-tabulate, at_most_injective, numbers-below}
use Rattle.algebra.proofs.ExactCounting.{exactly_at_most, exactly_from}
use Rattle.algebra.proofs.PolynomialLaws.{length-tabulate}
use Rattle.field.specs.Prime.{Prime}
use Rattle.field.specs.Element.{Elem, of}
use Rattle.field.proofs.ElementLaws.{same_word, word_below, decide}
use Rattle.domain.specs.Size.{is_size}
use Rattle.domain.specs.Domain.{element, inside, Outside}
use Rattle.domain.specs.Qualifies.{Qualifies}
use Rattle.domain.proofs.DomainLaws.{of_injective, element_injective, inside-element, outside_many}
use Rattle.domain.proofs.Qualification.{large_enough}
use Rattle.domain.proofs.SizeLaws.{size_bound}

-- there are p elements
pub exactly_elements : (q : Prime) → Exactly q.p (λ (x : Elem q). Unit {0})
exactly_elements q =
    exactly_from decide
    (at_most_injective (λ (x : Elem q). x.word) q.p (λ x y u v. same_word) (λ x u. word_below x) (numbers-below q.p))
    (tabulate q.p of) (distinct-tabulate q.p of of_injective) (all_of (λ x. tt) (tabulate q.p of))
    (omega (arith, length-tabulate q.p (of {q = q})))

module _ {q : Prime} (Q : Qualifies q) (n : ℕ) (s : is_size n ≡ true) where
  -- the n elements of the domain, which are inside, and points outside are distinct
  at_most_outside : AtMost (q.p - n) (Outside {q = q} n)
  at_most_outside l d outside =
      let D : List (Elem q) = tabulate n (element n) in
      let apart : (i : ℕ) → i < n → All (λ y. y ≢ element n i) l =
      λ i below. all_map (λ y o e. true≢false (sym (inside-element Q n s i below) ∙ ap (inside n) (sym e) ∙ o)) l outside in
      omega (
        arith,
        exactly_at_most (exactly_elements q) (D ++ l)
            (distinct_append D l (distinct-tabulate n (element n) (element_injective Q n s)) d
            (all-tabulate (λ x. All (λ y. y ≢ x) l) n (element n) apart))
            (all_of (λ x. tt) (D ++ l)),
        length-append D l,
        length-tabulate n (element {q = q} n),
      )

  -- p - n of them lie outside the domain of size n
  pub exactly_outside : Exactly (q.p - n) (Outside {q = q} n)
  exactly_outside =
      let room : n < q.p = omega (arith, large_enough q Q, size_bound n s) in
      let (l, distinct, outside, more) = outside_many Q n s (q.p - n - 1) (omega arith) in
      exactly_from decide at_most_outside l distinct outside (omega arith)
