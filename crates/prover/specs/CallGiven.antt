-- How contracts name the prover's polynomials from what a call is given. Assumes nothing.
use Rattle.std.specs.Prelude.{List, map, ℕ}
use Rattle.field.specs.Prime.{Prime}
use Rattle.field.specs.Element.{Elem, of}
use Rattle.domain.specs.Polynomial.{Poly}
use Rattle.protocol.specs.Three.{Three, map_three}
use Rattle.protocol.specs.Circuit.{Circuit, public_part}
use Rattle.protocol.specs.Messages.{witness, assignment, line, line_remainder, line_quotient}
use Rattle.protocol.specs.Calls.{ProverInput, circuit_of}

module _ (q : Prime) (i : ProverInput) where
  abbrev pub circuit_in : Circuit
  circuit_in = circuit_of i.circuit

  abbrev pub z_in : List (Elem q)
  z_in = map of i.z

  abbrev pub witness_in : Poly q
  witness_in = witness circuit_in z_in (of i.r)

  abbrev pub assignment_in : Poly q
  assignment_in = assignment circuit_in (public_part circuit_in z_in) witness_in

  abbrev pub line_in : ℕ → Three ℕ → Poly q
  line_in α η = line circuit_in (map of i.m) assignment_in (of α) (map_three of η)

  abbrev pub line_remainder_in : ℕ → Three ℕ → Poly q
  line_remainder_in α η = line_remainder circuit_in (line_in α η)

  abbrev pub line_quotient_in : ℕ → Three ℕ → Poly q
  line_quotient_in α η = line_quotient circuit_in (line_in α η)
