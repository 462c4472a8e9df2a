-- What the loop of `transform::product::combine_into` keeps. Assumes nothing.
use Rattle.std.proofs.Common.{◌≡◌, List, ℕ, length, get_or}
use Rattle.algebra.specs.Lists.{tabulate}
use Rattle.algebra.specs.Ring.{pow}
use Rattle.field.specs.Prime.{Prime}
use Rattle.field.specs.Element.{Elem, of, ◌⊗◌, ◌⊖◌, words}
use Rattle.field.proofs.ElementLaws.{prime_ring}
use Rattle.domain.proofs.Fill.{Filled}
use Rattle.transform.proofs.product.combine_into.Given as goal

-- what the slice is to hold
abbrev pub rule : (q : Prime) → ℕ → ℕ → List ℕ → List ℕ → ℕ → Elem q
rule q s share plain turned i = (pow (prime_ring q) (of s) i ⊗ of (get_or turned i 0) ⊖ of (get_or plain i 0)) ⊗ of share

abbrev pub invariant-loop-i : goal.invariant-loop-i
invariant-loop-i l =
    (q : Prime) → q.p ≡ l.p
    → (l.power ≡ (pow (prime_ring q) (of l.s) l.i).word)
    × Filled (words (tabulate (length l.initial.out) (rule q l.s l.share l.plain l.turned))) l.out l.i
