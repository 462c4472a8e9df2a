-- How contracts name the openings from what a call is given, and as lists of words; and its points outside their domains.
-- Assumes nothing.
use Rattle.std.specs.Prelude.{List, ◌∷◌, ◌++◌, map, ℕ}
use Rattle.field.specs.Prime.{Prime}
use Rattle.field.specs.Element.{Elem, of}
use Rattle.domain.specs.Known.{OutsideDomain}
use Rattle.shared.specs.declared.Opened.{Opened}
use Rattle.protocol.specs.Three.{Three, each, listed, map_three}
use Rattle.protocol.specs.Circuit.{sizes_of, largest}
use Rattle.protocol.specs.Checks.{Openings}
use Rattle.protocol.specs.Messages.{messages, openings}
use Rattle.protocol.specs.Index.{Index, index, list_index}
use Rattle.shared.specs.Meanings.{three}
use Rattle.protocol.specs.Calls.{ProverInput, circuit_of}
use Rattle.circuit.specs.Given.{given}
use Rattle.circuit.specs.declared.given.CircuitWords as declared
use Rattle.circuit.specs.declared.given.Challenges as declared-challenges
use Rattle.prover.specs.CallGiven.{circuit_in, z_in}
use Rattle.openings.specs.declared.IndexOpened.{IndexOpened}
use Rattle.openings.specs.declared.AllOpened.{AllOpened}

abbrev pub openings_in : (q : Prime) → ProverInput → ℕ → Three ℕ → ℕ → Three ℕ → ℕ → Openings (Elem q)
openings_in q i α η β δ γ =
    openings (messages (circuit_in q i) (z_in q i) (of i.r) (map of i.m) (of α) (map_three of η) (of β) (map_three of δ))
    (each (index (circuit_in q i))) (of α) (of β) (of γ)

-- the openings of the messages in order, as a call answers them
abbrev pub message_list : Opened → List ℕ
message_list o =
    o.witness ∷ o.mask ∷ o.line_remainder ∷ o.line_quotient ∷ o.row_quotient ∷ o.joined_quotient ∷ listed (three o.matrix_remainders)

-- the openings of one matrix's index polynomials, and in order
abbrev pub index_meaning : IndexOpened → Index ℕ
index_meaning i = record { row = i.row; col = i.col; rowcol = i.rowcol; rowcolval = i.rowcolval }

abbrev pub index_list : IndexOpened → List ℕ
index_list i = list_index (index_meaning i)

-- all openings in order
abbrev pub opened_list : AllOpened → List ℕ
opened_list o = message_list o.messages ++ (index_list o.index.a ++ (index_list o.index.b ++ index_list o.index.c))

-- α is outside R, β outside C and γ outside K
pub record PointsOutside (p r c x : ℕ) (ea eb ec : List ℕ) (alpha beta gamma : ℕ) : Type 0 where
  pub α-outside : OutsideDomain p r alpha
  pub β-outside : OutsideDomain p c beta
  pub γ-outside : OutsideDomain p (largest (sizes_of (circuit_of (given r c x ea eb ec))).|K|) gamma

-- those of the circuit and of the challenges that a call is given
abbrev pub ChallengesOutside : ℕ → declared.CircuitWords → declared-challenges.Challenges → Type 0
ChallengesOutside p k h =
    PointsOutside p k.r k.c k.x k.matrices.a.now k.matrices.b.now k.matrices.c.now h.alpha h.beta h.gamma
