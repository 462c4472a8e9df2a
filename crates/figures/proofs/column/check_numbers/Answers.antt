-- `figures::column::check_numbers` meets its contract. Assumes nothing.
use mathlib.Core.Path.{ap}
use mathlib.Core.List.{List, [], ◌∷◌}
use Prim.Native.Nat.{ℕ, ◌-◌, ◌*◌}
use Rattle.domain.specs.BabyBear.{baby_bear}
use Rattle.protocol.specs.Circuit.{Sizes, largest}
use Rattle.protocol.specs.Three.{Three}
use Rattle.sheet_lines.specs.Meanings.{given}
use Rattle.figures.proofs.column.check_numbers.Goals as goal

-- the numbers by the sizes
abbrev numbers : ℕ → ℕ → Three ℕ → List ℕ
numbers r c k =
    (2 * r - 2) ∷ (baby_bear.p - r) ∷ (2 * c - 1) ∷ (baby_bear.p - c) ∷ (2 * k.a - 2) ∷ (2 * k.b - 2) ∷ (2 * k.c - 2)
    ∷ (2 * largest k - 2) ∷ (baby_bear.p - largest k) ∷ []

pub returns : goal.returns
returns c =
    let g = given c.args.g in
    rw (
      c.degree.ensures,
      c.allowed.ensures,
      c.degree-2.ensures,
      c.allowed-2.ensures,
      c.degree-3.ensures,
      c.degree-4.ensures,
      c.degree-5.ensures,
      c.degree-6.ensures,
      c.allowed-3.ensures,
      c.largest-most.ensures,
    )
    (ap (numbers g.|R| g.|C|) (ap (λ (s : Sizes). s.|K|) c.sizes_for.ensures))
