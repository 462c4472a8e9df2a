-- `openings::values::parted_at` meets its contract. Assumes nothing.
use mathlib.Core.Path.{sym, ap, ap₂, ◌∙◌}
use mathlib.Core.List.{List, map, tail}
use Prim.Native.Nat.{ℕ}
use native.Mathlib.Omega.{arith}
use lib.ListN.{length-map}
use Rattle.field.specs.Element.{Elem, of, ◌⊕◌, ◌⊗◌}
use Rattle.field.proofs.Words.{of-result}
use Rattle.domain.specs.Polynomial.{Poly, eval}
use Rattle.poly.proofs.WordLists.{element-at}
use Rattle.openings.proofs.ValueLaws.{eval-parts}
use Rattle.openings.proofs.OpeningLaws.{tail-words}
use Rattle.openings.proofs.values.parted_at.Goals as goal

-- src/values.rt:69:1
pub returns : goal.returns
returns c q e =
    let f : List ℕ = c.args.f.now in
    let y : Elem q = of c.args.y in
    let rest = c.evaluate-rest.ensures q e ∙ ap (λ (g : Poly q). (eval g y).word) (tail-words q f) in
    record {
      whole =
          c.multiply_add.ensures q e
          ∙ ap₂ (λ (v a : Elem q). (y ⊗ v ⊕ a).word) (of-result (eval (tail (map of f)) y) rest) (element-at f 0)
          ∙ ap (λ (v : Elem q). v.word) (sym (eval-parts (map of f) y (omega (arith, length-map f (of {q = q})))));
      rest = rest;
    }
