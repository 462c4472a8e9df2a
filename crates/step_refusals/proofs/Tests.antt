-- Tests joined by `&&`. Assumes nothing.
use Rattle.std.proofs.Common.{◌≡◌, sym, ap, ◌∙◌, Bool, ◌&&◌}

-- a && b, by what the code found of a: t is its answer, and b is asked only where it is true
pub joined : {r t a v : Bool} (b : Bool) → r ≡ t → r ≡ a → v ≡ (t && b) → v ≡ (a && b)
joined b found is e = e ∙ ap (λ t. t && b) (sym found ∙ is)
