-- `figures::column::size_numbers` meets its contract. Assumes nothing.
use mathlib.Core.Path.{ap}
use mathlib.Core.List.{[], ◌∷◌}
use Rattle.protocol.specs.Circuit.{Sizes, largest}
use Rattle.sheet_lines.specs.Meanings.{given}
use Rattle.figures.proofs.column.size_numbers.Goals as goal

pub returns : goal.returns
returns c =
    let g = given c.args.g in
    rw c.largest.ensures
    (ap
    (λ (s : Sizes).
    g.|R| ∷ g.|C| ∷ g.|X| ∷ g.entries.a ∷ g.entries.b ∷ g.entries.c ∷ s.|K|.a ∷ s.|K|.b ∷ s.|K|.c ∷ largest s.|K| ∷ [])
    c.sizes_for.ensures)
