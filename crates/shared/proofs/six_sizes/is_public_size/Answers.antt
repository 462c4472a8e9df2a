-- `shared::six_sizes::is_public_size` meets its contract. Assumes nothing.
use mathlib.Core.Bool.{true, false}
use mathlib.Core.Path.{◌≡◌, sym, ◌∙◌}
use Rattle.domain.specs.Size.{is_size}
use Rattle.shared.proofs.six_sizes.is_public_size.Goals as goal

pub returns-then-is_size : goal.returns-then-is_size
returns-then-is_size c =
    let passes : is_size c.args.x ≡ true = sym c.is_size.ensures ∙ c.if-is_size.true in rw passes

pub returns-else-is_size : goal.returns-else-is_size
returns-else-is_size c =
    let fails : is_size c.args.x ≡ false = sym c.is_size.ensures ∙ c.if-is_size.false in rw fails
