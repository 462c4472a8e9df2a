-- How contracts name what the openings at β are made from, and m, g1 and h1 there. Assumes nothing.
use Rattle.std.specs.Prelude.{◌≡◌, List, map, ℕ}
use Rattle.algebra.specs.Lists.{tabulate}
use Rattle.field.specs.Prime.{Prime}
use Rattle.field.specs.Element.{Elem, of}
use Rattle.domain.specs.Polynomial.{Poly, eval, values_on}
use Rattle.protocol.specs.Three.{Three, each}
use Rattle.protocol.specs.Circuit.{Circuit, public_part}
use Rattle.protocol.specs.Checks.{weighted}
use Rattle.protocol.specs.Messages.{witness, assignment, line, line_remainder, line_quotient}
use Rattle.protocol.proofs.ProverForms.{column_sum}
use Rattle.openings.specs.declared.line.LineOpened.{LineOpened}

module _ {q : Prime} (k : Circuit) where
  -- ẑ from z and the mask word
  abbrev pub assignment_of : List (Elem q) → Elem q → Poly q
  assignment_of z r = assignment k (public_part k z) (witness k z r)

  -- the words are the values of Σ η_M M̂(α,Y) on C
  abbrev pub Weighed : Elem q → Three (Elem q) → List ℕ → Type 0
  Weighed α η weights = map of weights ≡ tabulate k.|C| (λ j. weighted η (each (λ M. column_sum k M α j)))

  -- ẑ has the values z on C, and the given one at β
  pub record Assigned (ẑ : Poly q) (β : Elem q) (z : List ℕ) (value : ℕ) : Type 0 where
    pub on_columns : values_on k.|C| ẑ ≡ map of z
    pub at_point : value ≡ (eval ẑ β).word

  -- m, g1 and h1 at β
  pub record LineIs (m ẑ : Poly q) (α : Elem q) (η : Three (Elem q)) (β : Elem q) (v : LineOpened) : Type 0 where
    pub is-mask : v.mask ≡ (eval m β).word
    pub is-remainder : v.remainder ≡ (eval (line_remainder k (line k m ẑ α η)) β).word
    pub is-quotient : v.quotient ≡ (eval (line_quotient k (line k m ẑ α η)) β).word
