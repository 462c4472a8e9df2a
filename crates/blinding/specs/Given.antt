-- What the contracts of this crate ask of a call: its sizes, its lists, and its lent slices. Assumes nothing.
use Rattle.std.specs.Prelude.{◌≡◌, true, List, ℕ, ◌+◌, ◌-◌, ◌*◌, ◌%◌, ◌<◌, ◌≤◌, length}
use Rattle.domain.specs.Size.{is_size, max_size}
use Rattle.circuit.specs.declared.given.CircuitWords.{CircuitWords}

-- sizes that 4 lets through
pub record Sized (r c x : ℕ) : Type 0 where
  pub R-size : is_size r ≡ true
  pub C-size : is_size c ≡ true
  pub X-size : is_size x ≡ true
  pub X-within : x ≤ c

-- and three columns that are not public
pub record Reserving (c x : ℕ) : Type 0 where
  pub C-size : is_size c ≡ true
  pub X-size : is_size x ≡ true
  pub X-within : x ≤ c
  pub enough : 3 ≤ c - x

-- whole entries, with room for one more
pub record Roomy (l : List ℕ) : Type 0 where
  pub whole : length l % 3 ≡ 0
  pub room : length l < 3 * max_size

-- what 4 and 5 let through of the lists that are given
pub record Shaped (r c x : ℕ) (ea eb ec z : List ℕ) : Type 0 where
  pub sized : Sized r c x
  pub list-a : Roomy ea
  pub list-b : Roomy eb
  pub list-c : Roomy ec
  pub z-length : length z ≡ c

-- and of the lent slices, where there are three columns to reserve
pub record Fitting (r c x : ℕ) (ea eb ec z blindedA blindedB blindedC blindedZ : List ℕ) : Type 0 where
  pub shaped : Shaped r c x ea eb ec z
  pub enough : 3 ≤ c - x
  pub lent-a : length blindedA ≡ length ea + 3
  pub lent-b : length blindedB ≡ length eb + 3
  pub lent-c : length blindedC ≡ length ec + 3
  pub lent-z : length blindedZ ≡ c

-- the same for the circuit that a call is given
abbrev pub ShapedCircuit : CircuitWords → List ℕ → Type 0
ShapedCircuit k z = Shaped k.r k.c k.x k.matrices.a.now k.matrices.b.now k.matrices.c.now z

abbrev pub FittingCircuit : CircuitWords → List ℕ → List ℕ → List ℕ → List ℕ → List ℕ → Type 0
FittingCircuit k z blindedA blindedB blindedC blindedZ =
    Fitting k.r k.c k.x k.matrices.a.now k.matrices.b.now k.matrices.c.now z blindedA blindedB blindedC blindedZ
