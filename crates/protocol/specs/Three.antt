-- The three matrices, and what there is one of for each (document 01, "Prover": "Sums Σ run over A, B, C"). Assumes nothing.
use Rattle.std.specs.Prelude.{List, [], ◌∷◌}
use Rattle.field.specs.Prime.{Prime}
use Rattle.field.specs.Element.{Elem, ◌⊕◌}

pub data MatrixName : Type 0 where
  A B C : MatrixName

pub record Three (T : Type 0) : Type 0 where
  pub a : T
  pub b : T
  pub c : T

module _ {T : Type 0} where
  abbrev pub at : Three T → MatrixName → T
  at t A = t.a
  at t B = t.b
  at t C = t.c

  abbrev pub each : (MatrixName → T) → Three T
  each f = record { a = f A; b = f B; c = f C }

  abbrev pub listed : Three T → List T
  listed t = t.a ∷ t.b ∷ t.c ∷ []

abbrev pub map_three : {S T : Type 0} → (S → T) → Three S → Three T
map_three f t = record { a = f t.a; b = f t.b; c = f t.c }

-- Σ over the three matrices
abbrev pub sum_matrices : {q : Prime} → (MatrixName → Elem q) → Elem q
sum_matrices f = f A ⊕ f B ⊕ f C
