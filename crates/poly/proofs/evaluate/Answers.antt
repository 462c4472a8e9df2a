-- `poly::evaluate` meets its contract: it is evaluation taken up midway, begun with 0 and 1. Assumes nothing.
use Rattle.std.proofs.Common.{ap, ◌∙◌, map, ℕ, arith}
use Rattle.algebra.specs.Polynomial.{Running}
use Rattle.algebra.proofs.PartLaws.{whole}
use Rattle.field.specs.Element.{Elem, of}
use Rattle.field.proofs.ElementLaws.{prime_ring}
use Rattle.poly.proofs.evaluate.Goals as goal

pub returns : goal.returns
returns c q e =
    let a = c.args in
    ap (λ (r : Running ℕ). r.sum) (c.evaluate_part-end.ensures q e (omega (arith, q.above_two, e), omega (arith, q.above_two, e)))
    ∙ ap (λ (r : Running (Elem q)). r.sum.word) (whole (prime_ring q) (of a.x) (map of a.f.now))
