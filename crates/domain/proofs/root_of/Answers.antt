-- `domain::root_of` meets its contract: its constant ROOTS is the generator table, in which g_n stands at the trailing zeros of n.
-- Assumes nothing.
use mathlib.Core.Path.{sym, ap, ◌∙◌}
use Prim.Native.Nat.{ℕ}
use lib.Count.{count_trailing_zeros}
use Rattle.field.specs.Prime.{Prime}
use Rattle.domain.specs.Domain.{root}
use Rattle.domain.specs.BabyBear.{baby_bear}
use Rattle.domain.specs.GeneratorTable.{generator_table}
use Rattle.domain.proofs.SizeDigits.{size_trailing}
use Rattle.domain.proofs.GeneratorLaws.{generator-is-root}
use Rattle.domain.proofs.root_of.Goals as goal

pub bounds-n : goal.bounds-n
bounds-n c = (size_trailing c.args.n c.requires).0

pub returns : goal.returns
unfolding generator_table
returns c q known =
    let n : ℕ = c.args.n in
    let (below, power) = size_trailing n c.requires in
    generator-is-root (count_trailing_zeros 32 n) below
    ∙ ap (λ (m : ℕ). (root {q = baby_bear} m).word) (sym power)
    ∙ ap (λ (q : Prime). (root {q = q} n).word) (sym known.is_module)
