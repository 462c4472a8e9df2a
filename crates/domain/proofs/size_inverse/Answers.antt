-- `domain::size_inverse` meets its contract. Assumes nothing.
use mathlib.Core.Path.{sym, ap, ◌∙◌}
use Prim.Native.Nat.{ℕ, ◌-◌, ◌/◌}
use Rattle.domain.proofs.SizeLaws.{size_positive, size_inverse}
use Rattle.domain.proofs.size_inverse.Goals as goal

pub nonzero_div-result : goal.nonzero_div-result
nonzero_div-result c = size_positive c.args.n c.requires.n_value

pub returns : goal.returns
returns c q Q e =
    ap (λ (p : ℕ). p - (p - 1) / c.args.n) (sym e) ∙ size_inverse Q c.args.n c.requires.n_value
