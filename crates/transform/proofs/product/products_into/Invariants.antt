-- What the loop of `transform::product::products_into` keeps. Assumes nothing.
use Rattle.std.proofs.Common.{◌≡◌, List, ℕ, length, get_or}
use Rattle.algebra.specs.Lists.{tabulate}
use Rattle.field.specs.Prime.{Prime}
use Rattle.field.specs.Element.{Elem, of, ◌⊗◌, words}
use Rattle.domain.proofs.Fill.{Filled}
use Rattle.transform.proofs.product.products_into.Given as goal

-- what the slice is to hold at place i
abbrev pub rule : (q : Prime) → List ℕ → List ℕ → ℕ → Elem q
rule q left right i = of (get_or left i 0) ⊗ of (get_or right i 0)

abbrev pub invariant-loop-i : goal.invariant-loop-i
invariant-loop-i l =
    (q : Prime) → q.p ≡ l.p → Filled (words (tabulate (length l.initial.out) (rule q l.left l.right))) l.out l.i
