-- How the contracts of this crate name what a call is given: its circuit, and entries within their matrix. Assumes nothing.
use Rattle.std.specs.Prelude.{◌≡◌, true, List, ℕ, ◌+◌, ◌*◌, ◌%◌, ◌<◌, ◌≤◌, length, get_or}
use Rattle.algebra.specs.Counting.{All}
use Rattle.domain.specs.Size.{max_size, is_size}
use Rattle.protocol.specs.Three.{Three}
use Rattle.protocol.specs.Circuit.{Entry}
use Rattle.protocol.specs.Calls.{CircuitWords, ProverInput, entries_of, circuit_of}
use Rattle.circuit.specs.declared.given.CircuitWords as declared
use Rattle.circuit.specs.declared.given.ProverInput as declared-input
use Rattle.protocol.proofs.AdmissionLaws.{WellFormed}

-- the circuit of three sizes and the words of three entry lists
abbrev pub given : ℕ → ℕ → ℕ → List ℕ → List ℕ → List ℕ → CircuitWords
given r c x ea eb ec = record { |R| = r; |C| = c; |X| = x; matrices = record { a = ea; b = eb; c = ec } }

-- the circuit that a call is given, and what every prover call begins with
abbrev pub circuit_words : declared.CircuitWords → CircuitWords
circuit_words k = given k.r k.c k.x k.matrices.a.now k.matrices.b.now k.matrices.c.now

abbrev pub input_words : declared-input.ProverInput → ProverInput
input_words i = record { circuit = circuit_words i.circuit; z = i.z.now; r = i.mask; m = i.m.now }

-- row and column are within a matrix of r rows and c columns
pub record Within (r c : ℕ) (e : Entry) : Type 0 where
  pub row_below : e.row < r
  pub column-below : e.column < c

-- entry i of a list of words, zeros after the last
abbrev pub entry_words : List ℕ → ℕ → Entry
entry_words l i = record { row = get_or l (3 * i) 0; column = get_or l (3 * i + 1) 0; value = get_or l (3 * i + 2) 0 }

-- the entries of three lists of words
abbrev pub entry_lists : List ℕ → List ℕ → List ℕ → Three (List Entry)
entry_lists ea eb ec = record { a = entries_of ea; b = entries_of eb; c = entries_of ec }

-- those of the circuit that a call is given
abbrev pub lists_in : declared.CircuitWords → Three (List Entry)
lists_in k = entry_lists k.matrices.a.now k.matrices.b.now k.matrices.c.now

-- and they are within it
pub record EachWithin (r c : ℕ) (ea eb ec : List ℕ) : Type 0 where
  pub in_a : All (Within r c) (entries_of ea)
  pub in_b : All (Within r c) (entries_of eb)
  pub in_c : All (Within r c) (entries_of ec)

-- those of the circuit that a call is given
abbrev pub ListsWithin : ℕ → ℕ → declared.CircuitWords → Type 0
ListsWithin r c k = EachWithin r c k.matrices.a.now k.matrices.b.now k.matrices.c.now

-- a list of whole entries, and not over 1,024 of them; three such lists
pub record EntryWords (l : List ℕ) : Type 0 where
  pub whole : length l % 3 ≡ 0
  pub few : length l ≤ 3 * max_size

pub record ThreeLists (ea eb ec : List ℕ) : Type 0 where
  pub list-a : EntryWords ea
  pub list-b : EntryWords eb
  pub list-c : EntryWords ec

abbrev pub WholeLists : declared.CircuitWords → Type 0
WholeLists k = ThreeLists k.matrices.a.now k.matrices.b.now k.matrices.c.now

-- a circuit that 4 and 5 do not refuse, and what every prover call begins with
pub record CircuitShaped (r c : ℕ) (ea eb ec : List ℕ) : Type 0 where
  pub R-size : is_size r ≡ true
  pub C-size : is_size c ≡ true
  pub lists : ThreeLists ea eb ec

pub record Shaped (r c : ℕ) (ea eb ec z m : List ℕ) : Type 0 where
  pub circuit : CircuitShaped r c ea eb ec
  pub z-length : length z ≡ c
  pub m-length : length m ≡ 2 * c

abbrev pub ShapedCircuit : declared.CircuitWords → Type 0
ShapedCircuit k = CircuitShaped k.r k.c k.matrices.a.now k.matrices.b.now k.matrices.c.now

abbrev pub ShapedInput : declared-input.ProverInput → Type 0
ShapedInput i = Shaped i.circuit.r i.circuit.c i.circuit.matrices.a.now i.circuit.matrices.b.now i.circuit.matrices.c.now i.z.now i.m.now

-- what every prover call begins with
abbrev pub prover_input : ℕ → ℕ → ℕ → List ℕ → List ℕ → List ℕ → List ℕ → ℕ → List ℕ → ProverInput
prover_input r c x ea eb ec z mask m = record { circuit = given r c x ea eb ec; z = z; r = mask; m = m }

-- what 4 to 7 leave of a call that is let through: a circuit that is well-formed, and lists of their lengths
pub record Fits (p r c x : ℕ) (ea eb ec z m : List ℕ) : Type 0 where
  pub well_formed : WellFormed p (circuit_of (given r c x ea eb ec))
  pub lists : ThreeLists ea eb ec
  pub within : EachWithin r c ea eb ec
  pub z-length : length z ≡ c
  pub m-length : length m ≡ 2 * c

abbrev pub FitsInput : ℕ → declared-input.ProverInput → Type 0
FitsInput p i =
    Fits p i.circuit.r i.circuit.c i.circuit.x i.circuit.matrices.a.now i.circuit.matrices.b.now i.circuit.matrices.c.now i.z.now i.m.now
