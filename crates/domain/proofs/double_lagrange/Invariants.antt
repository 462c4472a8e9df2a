-- What the loop of `domain::double_lagrange` keeps, which has come down to place i. Assumes nothing.
use Rattle.std.proofs.Common.{◌≡◌, ◌+◌, length, take}
use Rattle.algebra.specs.Lists.{tabulate}
use Rattle.field.specs.Prime.{Prime}
use Rattle.field.specs.Element.{of, ◌⊗◌, words}
use Rattle.domain.specs.Domain.{root}
use Rattle.domain.specs.Qualifies.{Qualifies}
use Rattle.domain.proofs.LagrangeHalving.{lagrange_at, half_quotient, Doubling}
use Rattle.domain.proofs.double_lagrange.Given as goal

abbrev pub invariant-loop-i : goal.invariant-loop-i
invariant-loop-i l =
    (q : Prime) → Qualifies q → q.p ≡ l.p → l.g ≡ (root {q = q} (length l.initial.out)).word
    → take l.half l.initial.out ≡ words (tabulate l.half (lagrange_at l.half (of {q = q} l.y ⊗ of l.y)))
    → (l.turned ≡ (half_quotient (l.half + l.half) (of {q = q} l.y) l.i).word) × Doubling l.half (of {q = q} l.y) l.out l.i
